use native.Mathlib.Omega.{arith}
use Rattle.words.specs.Bytes.{bytes4}
use Rattle.table_write.proofs.Over.{stored, part-back}
use Rattle.table_write.proofs.places.put_record.Goals as goal

pub returns : goal.returns
returns c =
    let a = c.args in
    let s = a.table.now in
    stored s a.request.now (bytes4 a.marks.0) a.at 28 (part-back s _ _ a.at _ 28 (omega arith) c.copy_from_slice.ensures.after) c.put_u32.ensures
    c.told-request (omega arith)
