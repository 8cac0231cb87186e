use Prim.Native.Nat.{◌*◌, ◌≤◌}
use mathlib.Core.Path.{◌≡◌}
use lib.ListN.{length}
use Rattle.table_write.specs.Writing.{over}
use Rattle.numbering.specs.Numbered.{blocks_anew}
use Rattle.numbering.proofs.anew.put_blocks.Given as goal

abbrev pub invariant-loop-i : goal.invariant-loop-i
invariant-loop-i l =
    (l.i ≤ l.n) × (length l.output ≡ length l.initial.output) × (l.output ≡ over l.initial.output (512 * l.at) (512 * l.i) (blocks_anew l.total l.at l.from l.first l.i))
