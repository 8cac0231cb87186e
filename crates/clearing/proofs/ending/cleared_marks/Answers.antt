use Prim.Native.Nat.{ℕ, ◌-◌}
use mathlib.Core.Path.{ap₂, ◌∙◌}
use lib.Bits.{bit_and}
use Rattle.clearing.specs.Cleared.{kept_marks, cleared_by}
use Rattle.clearing.proofs.ending.cleared_marks.Goals as goal

pub returns : goal.returns
unfolding cleared_by kept_marks
returns c =
    c.without.ensures ∙ ap₂ {C = ℕ} (λ x y. x - bit_and x y) c.marks.ensures c.together_of.ensures
