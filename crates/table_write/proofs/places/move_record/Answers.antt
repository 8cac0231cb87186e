use native.Mathlib.Omega.{arith}
use lib.ListN.{drop, length-drop}
use lib.Seq.{length-take-le}
use Rattle.words.specs.Bytes.{bytes4, part}
use Rattle.table_write.proofs.Over.{stored}
use Rattle.table_write.proofs.places.move_record.Goals as goal

pub returns : goal.returns
returns c =
    let a = c.args in
    let s = a.table.now in
    stored s (part s a.from 28) (bytes4 a.marks.0) a.to 28 c.move_words.ensures c.put_u32.ensures
    (length-take-le 28 (drop a.from s) (rw length-drop (omega arith))) (omega arith)
