use Prim.Native.Nat.{◌*◌, min}
use mathlib.Core.Path.{◌≡◌}
use lib.ListN.{length}
use Rattle.format.specs.Records.{records_here}
use Rattle.clearing.specs.Cleared.{left_of}
use Rattle.clearing.proofs.room.kept.Given as goal

-- the records of the blocks that were passed are counted
abbrev pub invariant-loop-k : goal.invariant-loop-k
invariant-loop-k l = l.count ≡ length (left_of l.ending l.q (records_here l.table (min l.n (15 * l.k))))
