use Prim.Native.Nat.{ℕ, ◌≤◌}
use mathlib.Core.Path.{◌≡◌}
use mathlib.Core.List.{List}
use lib.ListN.{length}
use Rattle.clearing.specs.Settling.{Settling}
use Rattle.clearing.proofs.settling.settle_records.Given as goal

abbrev pub invariant-loop-i : goal.invariant-loop-i
invariant-loop-i g l =
    (l.i ≤ l.to)
    × (l.settled.held ≤ l.i)
    × (length l.table ≡ length l.initial.table)
    × ((s : List ℕ) → Settling (g.F.Fate.left l.fate) s l.from l.initial.table l.initial.settled.held l.initial.settled.changed
    → Settling (g.F.Fate.left l.fate) s l.i l.table l.settled.held l.settled.changed)
