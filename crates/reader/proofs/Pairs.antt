-- Two attributes in either order: the first byte of the first name tells in which.
-- Assumes nothing.
use Prim.Native.Nat.{ℕ, ◌≤◌, ◌<◌}
use native.Mathlib.Omega.{arith}
use mathlib.Core.Path.{◌≡◌, refl, sym, ◌∙◌}
use mathlib.Core.Bool.{true, false, ◌&&◌, false≢true}
use mathlib.Core.List.{List, [], ◌∷◌}
use borrow.Author.Tests.{ne_eqb}
use lib.Dec.{eqb, ltb}
use lib.ListN.{length, get_or}
use Rattle.std.specs.Prelude.{Result, Ok}
use Rattle.forms.specs.Form.{space, Form, nothing, ◌or◌, may_end, hopeless, bytes, left}
use Rattle.forms.proofs.Laws.{joined-assoc}
use Rattle.forms.proofs.Sequence.{left_or, begun}
use Rattle.forms.proofs.Runs.{left_word}
use Rattle.xml.specs.Grammar.{◌▸◌, text, gap, name, attribute, spaced, both}
use Rattle.reader.specs.Words.{word_count, named, word}
use Rattle.reader.specs.Parts.{in_turn, Told}
use Rattle.reader.specs.Scan.{RunsOn, Scans}
use Rattle.reader.specs.declared.misfit.Misfit.{Misfit}
use Rattle.reader.proofs.Computed.{computed}
use Rattle.reader.proofs.Letters.{word-starts}
use Rattle.reader.proofs.Counts.{some_fits}
use Rattle.reader.proofs.Steps.{Apart}
use Rattle.reader.proofs.Values.{attribute-hope}
use Rattle.reader.proofs.Pieces.{hope-then, scans-some}
use Rattle.reader.proofs.Starts.{starts-no, starts-yes}
use Rattle.reader.proofs.Choices.{scans-first, scans-second}

-- ---- a word in front

module _ (w : List ℕ) (k : Form) (l : 1 ≤ length w) where
  pub word-begun : begun (bytes w ▸ k) ≡ true
  unfolding computed
  word-begun = go w l
    where
      go : (w : List ℕ) → 1 ≤ length w → begun (bytes w ▸ k) ≡ true
      go [] l = absurd (omega arith)
      go (c ∷ w) l = refl

  pub word-must : may_end (bytes w ▸ k) ≡ false
  unfolding computed
  word-must = go w l
    where
      go : (w : List ℕ) → 1 ≤ length w → may_end (bytes w ▸ k) ≡ false
      go [] l = absurd (omega arith)
      go (c ∷ w) l = refl

  pub word-other : (b : ℕ) → (b ≡ get_or w 0 0 → ⊥) → left (bytes w ▸ k) b ≡ nothing
  word-other b = go w l
    where
      go : (w : List ℕ) → 1 ≤ length w → (b ≡ get_or w 0 0 → ⊥) → left (bytes w ▸ k) b ≡ nothing
      go [] l d = absurd (omega arith)
      go (c ∷ w) l d = left_word c w k b ∙ rw (ne_eqb b c d)

-- ---- two attributes in one order

module _ (m n : ℕ) where
  abbrev behind : Form
  behind = (gap ▸ text "=" ▸ gap ▸ text "\"" ▸ name ▸ text "\"") ▸ spaced (attribute (named n) name)

  turn-word : in_turn (named m) (named n) ≡ bytes (word m) ▸ behind
  turn-word = joined-assoc (text (named m)) (gap ▸ text "=" ▸ gap ▸ text "\"" ▸ name ▸ text "\"") (spaced (attribute (named n) name))

  module _ (l : m < word_count) where
    turn-begun : begun (in_turn (named m) (named n)) ≡ true
    turn-begun = rw turn-word (word-begun (word m) behind (word-starts m l))

    turn-must : may_end (in_turn (named m) (named n)) ≡ false
    turn-must = rw turn-word (word-must (word m) behind (word-starts m l))

    turn-other : (b : ℕ) → (b ≡ get_or (word m) 0 0 → ⊥) → left (in_turn (named m) (named n)) b ≡ nothing
    turn-other b d = rw turn-word (word-other (word m) behind (word-starts m l) b d)

  pub spaced-hope : hopeless (spaced (attribute (named n) name)) ≡ false
  unfolding computed
  spaced-hope = attribute-hope (named n) name refl

  turn-hope : hopeless (in_turn (named m) (named n)) ≡ false
  unfolding computed
  turn-hope = hope-then (attribute (named m) name) (spaced (attribute (named n) name)) (attribute-hope (named m) name refl) spaced-hope

-- ---- and in either

-- told apart the one way, two words are so the other way
pub told-swapped : (m n : ℕ) → Told m n → Told n m
told-swapped m n told =
    record {
      first = told.second;
      second = told.first;
      first-shows = told.second-shows;
      second-shows = told.first-shows;
      differ = λ e. told.differ (sym e);
    }

module _ (m n : ℕ) (told : Told m n) where
  abbrev either-turn : Form
  either-turn = in_turn (named m) (named n) or in_turn (named n) (named m)

  turns-apart : (k : Form) → Apart space (either-turn ▸ k)
  unfolding computed
  turns-apart k b h =
      left_or (in_turn (named m) (named n)) (in_turn (named n) (named m)) k b
      ∙ rw (
        turn-must m n told.first,
        turn-must n m told.second,
        turn-other m n told.first b (λ e. false≢true (sym told.first-shows ∙ rw (← e) h)),
        turn-other n m told.second b (λ e. false≢true (sym told.second-shows ∙ rw (← e) h)),
      )

  turns-hope : hopeless either-turn ≡ false
  unfolding hopeless
  turns-hope = rw (turn-hope m n)

  module _ {t : List ℕ} {a b : ℕ} {r : Result ℕ Misfit} (low : a ≤ length t) (some : RunsOn space t a (Ok b)) where
    -- the first in front, and the second in front
    pub pair-first : ltb b (length t) && eqb (get_or t b 0) (get_or (word n) 0 0) ≡ false
        → Scans (in_turn (named m) (named n)) t b r → Scans (both (attribute (named m) name) (attribute (named n) name)) t a r
    pair-first e p =
        scans-some space either-turn turns-apart turns-hope low some
        (scans-first (in_turn (named m) (named n)) (in_turn (named n) (named m)) (turn-must m n told.first) (turn-must n m told.second)
        (some_fits space t a b low some) (turn-begun m n told.first) (λ l. turn-other n m told.second (get_or t b 0) (starts-no (word n) t b e l)) p)

    pub pair-second : ltb b (length t) && eqb (get_or t b 0) (get_or (word n) 0 0) ≡ true
        → Scans (in_turn (named n) (named m)) t b r → Scans (both (attribute (named m) name) (attribute (named n) name)) t a r
    pair-second e p =
        scans-some space either-turn turns-apart turns-hope low some
        (scans-second (in_turn (named m) (named n)) (in_turn (named n) (named m)) (turn-must m n told.first) (turn-must n m told.second)
        (some_fits space t a b low some) (turn-begun n m told.second)
        (λ l. turn-other m n told.first (get_or t b 0) (λ d. told.differ (sym d ∙ starts-yes (word n) t b e))) p)
