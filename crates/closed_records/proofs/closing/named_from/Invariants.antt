use Prim.Native.Nat.{ℕ, ◌<◌, ◌≤◌}
use mathlib.Core.Path.{◌≡◌}
use mathlib.Core.Bool.{false}
use Rattle.format.specs.Context.{begins}
use Rattle.format.specs.Records.{record_here}
use Rattle.closed_records.proofs.closing.named_from.Given as goal

abbrev pub invariant-loop-i : goal.invariant-loop-i
invariant-loop-i l =
    (l.from ≤ l.i) × (l.i ≤ l.n) × ((k : ℕ) → l.from ≤ k → k < l.i → begins l.context (record_here l.table k).request ≡ false)
