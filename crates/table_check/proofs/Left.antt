-- A loop over the marks of a record, from the lowest on, which ends at the first that fails a test: what it knows.
-- Assumes nothing.
use Prim.Native.Nat.{ℕ, ◌-◌, ◌<◌}
use native.Mathlib.Omega.{arith}
use mathlib.Core.Path.{◌≡◌, sym, ◌∙◌}
use mathlib.Core.Bool.{Bool, true, false}
use lib.Bits.{bit_and, and_le_l, and_le_r}
use lib.Count.{count_trailing_zeros}
use Rattle.word_laws.proofs.Lowest.{lowest, none-set, lowest-fails, lowest-more}
use Rattle.rule_tests.specs.Shapes.{marks_pass}

module _ (test : ℕ → Bool) (marks : ℕ) where
  -- a rest of the marks is left, and all pass exactly if these do
  abbrev pub Left : ℕ → Type 0
  Left rest = (rest < 4294967296) × (marks_pass test rest ≡ marks_pass test marks)

  -- none is left
  pub passes : Left 0 → true ≡ marks_pass test marks
  passes left = sym (sym left.1 ∙ none-set 32 test)

  -- the lowest that is left fails or passes; then one less is left
  module _ (rest : ℕ) (some : rest ≡ 0 → ⊥) (left : Left rest) where
    pub fails : test (count_trailing_zeros 32 rest) ≡ false → false ≡ marks_pass test marks
    fails e =
        let low = lowest 32 rest some left.0 in
        sym (sym left.1 ∙ lowest-fails 32 rest (count_trailing_zeros 32 rest) (bit_and rest (rest - 1)) test low.1 low.0 e)

    pub more : test (count_trailing_zeros 32 rest) ≡ true → Left (bit_and rest (rest - 1))
    more e =
        let low = lowest 32 rest some left.0 in
        (omega (arith, and_le_l rest (rest - 1)), lowest-more 32 rest (count_trailing_zeros 32 rest) (bit_and rest (rest - 1)) test low.1 e ∙ left.1)

    pub place : count_trailing_zeros 32 rest < 32
    place = (lowest 32 rest some left.0).0

    pub less : bit_and rest (rest - 1) < rest
    less = omega (arith, and_le_r rest (rest - 1))
