use mathlib.Core.Path.{refl, ◌∙◌}
use native.Mathlib.Omega.{arith}
use lib.Seq.{sets-eq}
use Rattle.words.specs.Bytes.{bytes4}
use Rattle.format.specs.Block.{sum_bytes}
use Rattle.table_write.proofs.Over.{stored}
use Rattle.table_write.proofs.write.put_sums.Goals as goal

pub returns : goal.returns
unfolding sum_bytes
returns c =
    let a = c.args in
    let s = a.s.now in
    stored s (bytes4 a.sum.a) (bytes4 a.sum.b) a.at 4
    (c.put_u32.ensures ∙ sets-eq (bytes4 a.sum.a) s a.at (omega arith)) c.put_u32-2.ensures refl (omega arith)
