-- The code's table has the words, and each has a letter at least.
-- Assumes nothing.
use Prim.Native.Nat.{ℕ, ◌≤◌, ◌<◌}
use mathlib.Core.Path.{◌≡◌, refl}
use mathlib.Core.Bool.{true}
use mathlib.Core.List.{[], map}
use borrow.Author.Tests.{leb-true}
use lib.Dec.{leb}
use lib.ListN.{length, get_or, get_or-map}
use Rattle.words.specs.Lists.{all_below}
use Rattle.word_laws.proofs.Tests.{all_below-at}
use Rattle.forms.specs.Form.{ascii}
use Rattle.reader.specs.Words.{word_count, words, named, word}

all_start : all_below word_count (λ w. leb 1 (length (word w))) ≡ true
unfolding ascii words named all_below
all_start = refl

pub word-starts : (w : ℕ) → w < word_count → 1 ≤ length (word w)
word-starts w l = leb-true 1 (length (word w)) (all_below-at word_count w (λ w. leb 1 (length (word w))) all_start l)

-- and 20 at most
all_fit : all_below word_count (λ w. leb (length (word w)) 20) ≡ true
unfolding ascii words named all_below
all_fit = refl

pub word_fits : (w : ℕ) → w < word_count → length (word w) ≤ 20
word_fits w l = leb-true (length (word w)) 20 (all_below-at word_count w (λ w. leb (length (word w)) 20) all_fit l)

-- the words, row by row
pub word-row : (w : ℕ) → get_or (map ascii words) w [] ≡ word w
unfolding ascii named
word-row w = get_or-map ascii words w ""
