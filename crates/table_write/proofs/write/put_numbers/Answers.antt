use mathlib.Core.Path.{refl, ◌∙◌}
use mathlib.Core.List.{◌++◌}
use native.Mathlib.Omega.{arith}
use lib.Seq.{sets-eq}
use Rattle.words.specs.Bytes.{bytes2, bytes4}
use Rattle.table_write.proofs.Over.{stored}
use Rattle.table_write.proofs.write.put_numbers.Goals as goal

pub returns : goal.returns
returns c =
    let a = c.args in
    let s = a.block.now in
    stored s (bytes4 2 ++ bytes2 a.k ++ bytes2 a.total) (bytes2 a.count) 0 8
    (stored s (bytes4 2 ++ bytes2 a.k) (bytes2 a.total) 0 6
    (stored s (bytes4 2) (bytes2 a.k) 0 4 (c.put_u32.ensures ∙ sets-eq (bytes4 2) s 0 (omega arith)) c.put_u16.ensures refl (omega arith))
    c.put_u16-2.ensures refl (omega arith))
    c.put_u16-3.ensures refl (omega arith)
