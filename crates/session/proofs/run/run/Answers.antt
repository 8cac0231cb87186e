use Prim.Native.Nat.{ℕ}
use mathlib.Core.Path.{◌≡◌, sym, ap, refl, ◌∙◌}
use mathlib.Core.List.{List}
use native.Mathlib.Omega.{arith}
use Rattle.std.proofs.lemmas.Result.{err_from_is_err_and}
use Rattle.format.specs.Answer.{Answer, refuse}
use Rattle.format.specs.Code.{refusal_of}
use Rattle.session.proofs.Kept.{ran-called, ran-refused}
use Rattle.session.proofs.run.run.Goals as goal

pub returns-in_err-places : goal.returns-in_err-places
returns-in_err-places c =
    let a = c.args in
    let p = err_from_is_err_and c.from_residual.result c.from_residual.ensures.1 in
    rw (p.1, p.2) (ran-refused a.policy.now a.table.now _ _ _ _ c.in_err-places.ensures (λ n x. let z : ◌≡◌ {A = ℕ} 0 1 = cc x in omega arith))

pub returns : goal.returns
returns c =
    let a = c.args in
    ran-called a.policy.now a.table.now _ _ _ _ c.in_ok-places.ensures _ refl _ _ c.call_each.ensures.table_after c.call_each.ensures.answers_after
