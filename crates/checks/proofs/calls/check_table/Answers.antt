use mathlib.Core.Path.{sym}
use native.Mathlib.Omega.{arith}
use Rattle.std.proofs.lemmas.Result.{err_from_is_err_and}
use Rattle.table_check.proofs.Here.{accepted-small}
use Rattle.checks.proofs.Checked.{table-policy, table-refused, table-accepted, records-few}
use Rattle.checks.proofs.calls.check_table.Goals as goal

pub returns-in_err-checked : goal.returns-in_err-checked
returns-in_err-checked c =
    let p = err_from_is_err_and c.from_residual.result c.from_residual.ensures.1 in
    rw (p.1, p.2) (table-policy _ _ _ (sym c.in_err-checked.ensures.fault))

pub returns-in_err-table_fault : goal.returns-in_err-table_fault
returns-in_err-table_fault c =
    let k = c.in_ok-checked in
    let p = err_from_is_err_and c.from_residual-in_err-table_fault.result c.from_residual-in_err-table_fault.ensures.1 in
    rw (p.1, p.2) (table-refused _ _ _ (sym k.ensures.fault) (rw k.ensures.image at (sym c.in_err-table_fault.ensures)))

pub record_count-requires : goal.record_count-requires
record_count-requires c = accepted-small _ _ (sym c.in_ok-table_fault.ensures)

pub overflow_cast-result : goal.overflow_cast-result
overflow_cast-result c = omega (arith, c.record_count.ensures, records-few _ _ c.type_inv.table (sym c.in_ok-table_fault.ensures))

pub returns : goal.returns
returns c =
    let k = c.in_ok-checked in
    table-accepted _ _ _ (sym k.ensures.fault) (rw k.ensures.image at (sym c.in_ok-table_fault.ensures)) c.record_count.ensures
