use Prim.Native.Nat.{◌-◌, ◌<◌, ◌≤◌}
use mathlib.Core.Path.{◌≡◌}
use mathlib.Core.Bool.{true}
use Rattle.format.specs.Context.{begins}
use Rattle.format.specs.Records.{record_here}
use Rattle.judge.specs.Close.{closed}
use Rattle.clearing.specs.Settling.{Settling}
use Rattle.closed_records.proofs.closing.close_records.Given as goal

abbrev pub invariant-loop-i : goal.invariant-loop-i
invariant-loop-i l =
    (l.i ≤ l.n) × Settling (closed l.context) l.initial.table l.i l.table l.settled.held l.settled.changed × (l.i < l.n → begins l.context (record_here l.table l.i).request ≡ true)

abbrev pub decreases-loop-i : goal.decreases-loop-i
decreases-loop-i l = l.n - l.i
