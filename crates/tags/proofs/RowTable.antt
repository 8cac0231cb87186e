-- The rows' beginnings: how many there are, and how long they are.
-- Assumes nothing.
use Prim.Native.Nat.{ℕ, ◌<◌}
use mathlib.Core.Path.{◌≡◌, refl}
use borrow.Author.Tests.{ltb-true}
use lib.Dec.{ltb}
use lib.ListN.{length}
use Rattle.words.specs.Lists.{all_below}
use Rattle.word_laws.proofs.Tests.{all_below-at}
use Rattle.forms.specs.Form.{ascii}
use Rattle.xml.specs.Tags.{rows}
use Rattle.tags.specs.Rows.{beginnings, beginning}

-- no beginning is longer than 27 bytes
pub lengths-below : (k : ℕ) → k < 16 → length (beginning k) < 28
unfolding all_below beginnings rows ascii
lengths-below k h =
    ltb-true (length (beginning k)) 28 (all_below-at 16 k (λ j. ltb (length (beginning j)) 28) refl h)

-- there are sixteen rows
pub sixteen : length beginnings ≡ 16
unfolding beginnings rows
sixteen = refl
