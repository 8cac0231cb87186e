use native.Mathlib.Omega.{arith}
use Rattle.sums.specs.Code.{sums_of}
use Rattle.format.specs.Records.{records_here}
use Rattle.fields.specs.Code.{no_block}
use Rattle.table_write.proofs.SliceBytes.{slice-bytes}
use Rattle.table_write.proofs.TableWritten.{image-but}
use Rattle.clearing.proofs.Left.{length-here}
use Rattle.closed_records.proofs.Closed.{closed-split}
use Rattle.update.proofs.AfterLaws.{written_held}
use Rattle.update.proofs.closing.write_closed.Goals as goal

pub write_settled-requires : goal.write_settled-requires
write_settled-requires c =
    let a = c.args in
    let t = a.table.now in
    let room = c.requires.has_room in
    let e = c.close_records-left.ensures in
    let many = written_held e.1 e.0 in
    record {
      was = t;
      room = room;
      image = image-but (sums_of a.stamp) t a.n no_block (slice-bytes t c.slice_known-1.given) room c.requires.table_value;
      placed = e.1;
      few = omega (arith, many, closed-split a.context.now (records_here t a.n), length-here t a.n, room.few);
    }

pub returns : goal.returns
returns c =
    let e = c.close_records-left.ensures in
    c.write_settled.ensures _ _ e.1 e.0
