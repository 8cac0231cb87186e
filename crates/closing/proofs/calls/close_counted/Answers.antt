use Prim.Native.Nat.{◌≤◌}
use native.Mathlib.Omega.{arith}
use mathlib.Core.Path.{sym}
use Rattle.std.proofs.lemmas.Result.{err_from_is_err_and}
use Rattle.format.specs.Records.{records_here}
use Rattle.sums.specs.Code.{sums_of}
use Rattle.table_check.proofs.Here.{accepted-small}
use Rattle.table_write.proofs.SliceBytes.{slice-bytes}
use Rattle.clearing.proofs.Left.{length-here}
use Rattle.closed_records.proofs.Closed.{closed-split}
use Rattle.update.proofs.Standing.{Standing, standing}
use Rattle.closing.proofs.Closed.{by-policy, by-table, by-context, closes}
use Rattle.closing.proofs.calls.close_counted.Goals.{After-record_count-n, After-write_closed-after}
use Rattle.closing.proofs.calls.close_counted.Goals as goal

pub returns-in_err-checked : goal.returns-in_err-checked
returns-in_err-checked c =
    let p = err_from_is_err_and c.from_residual.result c.from_residual.ensures.1 in
    rw (p.1, p.2) (by-policy _ _ _ _ (sym c.in_err-checked.ensures.fault))

pub returns-in_err-table_fault : goal.returns-in_err-table_fault
returns-in_err-table_fault c =
    let k = c.in_ok-checked in
    let p = err_from_is_err_and c.from_residual-in_err-table_fault.result c.from_residual-in_err-table_fault.ensures.1 in
    rw (p.1, p.2) (by-table _ _ _ (sym k.ensures.fault) _ (rw k.ensures.image at (sym c.in_err-table_fault.ensures)))

pub returns-in_err-closed : goal.returns-in_err-closed
returns-in_err-closed c =
    let k = c.in_ok-checked in
    let p = err_from_is_err_and c.from_residual-in_err-closed.result c.from_residual-in_err-closed.ensures.1 in
    rw (p.1, p.2) (by-context _ _ _ (sym k.ensures.fault) (rw k.ensures.image at (sym c.in_ok-table_fault.ensures)) _ (sym c.in_err-closed.ensures.fault))

pub record_count-n-requires : goal.record_count-n-requires
record_count-n-requires c = accepted-small _ _ (sym c.in_ok-table_fault.ensures)

stands : (k : After-record_count-n) → let a = k.args in Standing a.policy.now (sums_of k.stamp-stamp.result) a.table.now k.record_count-n.result
stands k =
    let p = k.in_ok-checked in
    standing (slice-bytes _ k.slice_known-1.given) (rw p.ensures.image at (sym k.in_ok-table_fault.ensures)) (rw p.ensures.image at k.stamp-stamp.ensures) k.record_count-n.ensures

pub write_closed-after-requires : goal.write_closed-after-requires
write_closed-after-requires c =
    let st = stands (goal.at.write_closed-after-requires c).After-record_count-n in
    record { has_room = st.room; table_value = st.image }

-- no more are held than there were
few : (w : After-write_closed-after) → w.write_closed-after.result.held ≤ w.record_count-n.result
few w =
    let a = w.args in
    let n = w.record_count-n.result in
    omega (arith, w.write_closed-after.ensures.1, closed-split w.in_ok-closed.closed.now (records_here a.table.now n), length-here a.table.now n)

pub overflow_sub-removed : goal.overflow_sub-removed
overflow_sub-removed c = omega (arith, few (goal.at.overflow_sub-removed c).After-write_closed-after)

pub overflow_cast-result : goal.overflow_cast-result
overflow_cast-result c =
    let room = (stands (goal.at.overflow_cast-result c).After-record_count-n).room in
    omega (arith, few (goal.at.overflow_cast-result c).After-write_closed-after, room.few, room.most)

pub returns : goal.returns
returns c =
    let k = c.in_ok-checked in
    let x = c.in_ok-closed in
    let e = rw x.ensures.context at c.write_closed-after.ensures in
    closes _ _ _ (sym k.ensures.fault) (rw k.ensures.image at (sym c.in_ok-table_fault.ensures)) (sym x.ensures.fault) (rw k.ensures.image at c.stamp-stamp.ensures)
    (stands (goal.at.returns c).After-record_count-n) e.0 e.1 e.2
