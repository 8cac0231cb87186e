use mathlib.Core.Path.{sym}
use Rattle.std.proofs.lemmas.Result.{err_from_is_err_and}
use Rattle.conversion.proofs.Rows.{read-policy, read-names, read-is}
use Rattle.conversion.proofs.reading.read_rules.Goals as goal

pub returns-in_err-second : goal.returns-in_err-second
returns-in_err-second c =
    let p = err_from_is_err_and c.from_residual.result c.from_residual.ensures.1 in
    rw (p.1, p.2) (read-policy _ _ _ _ _ (sym c.in_err-second.ensures.fault))

pub returns-in_err-names : goal.returns-in_err-names
returns-in_err-names c =
    let p = err_from_is_err_and c.from_residual-in_err-names.result c.from_residual-in_err-names.ensures.1 in
    rw (p.1, p.2) (read-names _ _ _ _ _ (sym c.in_ok-second.ensures.fault) (sym c.in_err-names.ensures.fault))

pub returns : goal.returns
returns c = read-is _ _ _ _ (rw (c.in_ok-second.ensures.image, c.in_ok-names.ensures.list) at c.read_text.ensures)
