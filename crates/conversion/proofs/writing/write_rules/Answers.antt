use mathlib.Core.Path.{sym}
use Rattle.std.proofs.lemmas.Result.{err_from_is_err_and}
use Rattle.conversion.proofs.Rows.{write-policy, write-names, write-is}
use Rattle.conversion.proofs.writing.write_rules.Goals as goal

pub returns-in_err-policy : goal.returns-in_err-policy
returns-in_err-policy c =
    let p = err_from_is_err_and c.from_residual.result c.from_residual.ensures.1 in
    rw (p.1, p.2) (write-policy _ _ _ _ (sym c.in_err-policy.ensures.fault))

pub returns-in_err-names : goal.returns-in_err-names
returns-in_err-names c =
    let p = err_from_is_err_and c.from_residual-in_err-names.result c.from_residual-in_err-names.ensures.1 in
    rw (p.1, p.2) (write-names _ _ _ _ (sym c.in_ok-policy.ensures.fault) (sym c.in_err-names.ensures.fault))

pub returns : goal.returns
returns c =
    write-is _ _ _ (sym c.in_ok-policy.ensures.fault) (sym c.in_ok-names.ensures.fault)
    (rw (c.in_ok-policy.ensures.image, c.in_ok-names.ensures.list) at c.write_text.ensures)
