use Prim.Native.Nat.{◌+◌, ◌*◌}
use native.Mathlib.Omega.{arith}
use mathlib.Core.Path.{ap, ◌∙◌}
use lib.Seq.{sets-eq}
use Rattle.words.specs.Bytes.{bytes4}
use Rattle.table_write.specs.Writing.{over}
use Rattle.drafts.proofs.Numbers.{pair-bytes}
use Rattle.drafts.proofs.part.put_pair.Goals as goal

pub returns : goal.returns
returns c =
    let a = c.args in
    rw (c.from.ensures, c.from-2.ensures) at c.put_u32.ensures
    ∙ sets-eq (bytes4 (a.x + 65536 * a.y)) a.s.now a.at (omega arith)
    ∙ ap (over a.s.now a.at 4) (pair-bytes a.x a.y (omega arith) (omega arith))
