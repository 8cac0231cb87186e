use Prim.Native.Nat.{◌≤◌}
use mathlib.Core.Path.{◌≡◌}
use Rattle.sums.specs.Code.{sums_of}
use Rattle.table_write.specs.Writing.{size_of}
use Rattle.table_write.proofs.TableWritten.{Written}
use Rattle.table_write.proofs.write.seal_blocks.Given as goal

abbrev pub invariant-loop-k : goal.invariant-loop-k
invariant-loop-k l =
    (l.k ≤ l.total) × Written (sums_of l.stamp) l.initial.table l.n l.k l.table × (l.written ≡ size_of l.k l.changed)
