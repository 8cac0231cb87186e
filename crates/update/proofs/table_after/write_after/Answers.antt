use Prim.Native.Nat.{◌+◌, ◌≤◌}
use native.Mathlib.Omega.{arith}
use mathlib.Core.Path.{◌≡◌}
use mathlib.Core.Bool.{cond}
use lib.Dec.{eqb}
use Rattle.sums.specs.Code.{sums_of}
use Rattle.format.specs.Layout.{capacity}
use Rattle.format.specs.Block.{blocks}
use Rattle.format.specs.Records.{records_here}
use Rattle.fields.specs.Code.{no_block}
use Rattle.table_write.proofs.SliceBytes.{slice-bytes}
use Rattle.table_write.proofs.TableWritten.{image-but}
use Rattle.table_write.proofs.Placed.{room-placed}
use Rattle.clearing.specs.Cleared.{after_by}
use Rattle.update.proofs.AfterLaws.{left-held, after-here, written_held}
use Rattle.update.proofs.table_after.write_after.Goals.{After-append-after, After-settle-left}
use Rattle.update.proofs.table_after.write_after.Goals as goal

-- those that are left and the request have room
few : (m : After-settle-left) → let a = m.args in
    m.settle-left.result.held + cond (eqb a.gives.0 0) 0 1 ≤ capacity (blocks a.table.now)
few m =
    let a = m.args in
    omega (
      arith,
      left-held a.ending.each a.q.now a.ending.rules.0 a.gives.0 a.table.now _ a.n m.settle-left.result.held m.settle-left.ensures.0,
      m.requires.n_len_bound,
    )

pub append-after-requires : goal.append-after-requires
append-after-requires c = let h = room-placed c.settle-left.ensures.1 c.requires.ready.room in record { whole = h.whole; most = h.most; few = omega (arith, few (goal.at.append-after-requires c).After-settle-left, c.settle-left.ensures.1.long) }

-- the records that stand in the table then
here : (p : After-append-after) → let a = p.args in
    records_here p.append-after.new.table p.append-after.result.held ≡ after_by a.ending.each a.q.now a.ending.rules.0 a.gives.0 (records_here a.table.now a.n)
here p =
    let a = p.args in
    after-here a.ending.each a.q.now a.ending.rules.0 a.gives.0 a.table.now _ _ a.n p.settle-left.result.held p.append-after.result.held
    p.settle-left.ensures.0 p.append-after.ensures.0

pub write_settled-requires : goal.write_settled-requires
write_settled-requires c =
    let a = c.args in
    let t = a.table.now in
    let room = c.requires.ready.room in
    let placed = c.append-after.ensures.1 t c.settle-left.ensures.1 in
    let bytes = slice-bytes t c.slice_known-1.given in
    let many = written_held placed (here (goal.at.write_settled-requires c).After-append-after) in
    record {
      was = t;
      room = room;
      image = image-but (sums_of a.stamp) t a.n no_block bytes room c.requires.table_value;
      placed = placed;
      few = omega (arith, many, c.requires.n_len_bound);
    }

pub returns : goal.returns
returns c =
    c.write_settled.ensures _ _ (c.append-after.ensures.1 c.args.table.now c.settle-left.ensures.1) (here (goal.at.returns c).After-append-after)
