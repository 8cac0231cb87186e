-- What a test says that compares the byte at a place with a word's first.
-- Assumes nothing.
use Prim.Native.Nat.{ℕ, ◌<◌}
use mathlib.Core.Path.{◌≡◌, sym, ◌∙◌}
use mathlib.Core.Bool.{true, false, ◌&&◌, false≢true}
use mathlib.Core.List.{List}
use borrow.Author.Tests.{eqb-true, eq-eqb, lt-ltb, ltb-true}
use lib.Dec.{eqb, ltb}
use lib.ListN.{length, get_or}
use Rattle.word_laws.proofs.Tests.{both_first, both-second}

module _ (w t : List ℕ) (a : ℕ) where
  -- it fails: no byte is there, or another
  pub starts-no : ltb a (length t) && eqb (get_or t a 0) (get_or w 0 0) ≡ false → a < length t → get_or t a 0 ≡ get_or w 0 0 → ⊥
  starts-no e l d = false≢true (sym e ∙ rw (lt-ltb a (length t) l, eq-eqb (get_or t a 0) (get_or w 0 0) d))

  -- it passes
  pub starts-yes : ltb a (length t) && eqb (get_or t a 0) (get_or w 0 0) ≡ true → get_or t a 0 ≡ get_or w 0 0
  starts-yes e = eqb-true (get_or t a 0) (get_or w 0 0) (both-second (ltb a (length t)) _ e)

  pub starts-in : ltb a (length t) && eqb (get_or t a 0) (get_or w 0 0) ≡ true → a < length t
  starts-in e = ltb-true a (length t) (both_first (ltb a (length t)) _ e)
