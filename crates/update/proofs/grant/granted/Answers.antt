use Prim.Native.Nat.{ℕ}
use mathlib.Core.Path.{◌≡◌, refl, sym, ap, ◌∙◌}
use mathlib.Core.Bool.{cond}
use lib.Dec.{eqb}
use Rattle.update.proofs.grant.granted.Goals.{then-is_empty, else-is_empty}
use Rattle.update.proofs.grant.granted.Goals as goal

pub returns : goal.returns
returns c =
    let as_told : cond c.is_empty.result 0 1 ≡ cond (eqb c.args.gives.0 0) 0 1 = ap {B = ℕ} (λ b. cond b 0 1) c.is_empty.ensures in
    let recorded : c.if-is_empty.recorded ≡ cond (eqb c.args.gives.0 0) 0 1 =
    elim c.if-is_empty.branch [
      | then-is_empty w ↦ w.recorded-is ∙ sym (ap {B = ℕ} (λ b. cond b 0 1) w.if-is_empty.true) ∙ as_told
      | else-is_empty w ↦ w.recorded-is ∙ sym (ap {B = ℕ} (λ b. cond b 0 1) w.if-is_empty.false) ∙ as_told
    ] in
    rw recorded refl
