use Prim.Native.Nat.{ℕ}
use mathlib.Core.Path.{ap, ap₂}
use mathlib.Core.Bool.{not, ◌&&◌, ◌||◌}
use lib.Dec.{eqb, ltb}
use Rattle.policy_check.specs.Parts.{good_header}
use Rattle.policy_check.proofs.policy.good_header.Goals as goal

pub returns : goal.returns
unfolding good_header
returns c =
    let a = c.args in
    ap₂ ◌&&◌
    (ap₂ ◌&&◌ (ap (λ (x : ℕ). eqb x a.k) c.u16_at.ensures.0) (ap (λ (x : ℕ). eqb x a.total) c.u16_at-2.ensures.0))
    (ap (λ (x : ℕ). eqb x 3 || (eqb x 1 && ltb a.k 32 && not a.seen)) c.u32_at-kind.ensures)
