use mathlib.Core.Path.{sym}
use Rattle.std.proofs.lemmas.Result.{err_from_is_err_and}
use Rattle.checks.proofs.Checked.{policy-refused, policy-accepted}
use Rattle.checks.proofs.calls.check_policy.Goals as goal

pub returns-in_err-checked : goal.returns-in_err-checked
returns-in_err-checked c =
    let p = err_from_is_err_and c.from_residual.result c.from_residual.ensures.1 in
    rw (p.1, p.2) (policy-refused _ _ (sym c.in_err-checked.ensures.fault))

pub returns : goal.returns
returns c =
    let k = c.in_ok-checked in
    policy-accepted _ _ (sym k.ensures.fault) (rw k.ensures.image at k.checked.rules_are)
