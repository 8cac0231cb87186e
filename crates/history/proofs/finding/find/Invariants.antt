use Prim.Native.Nat.{◌≤◌}
use lib.ListN.{length}
use Rattle.history.proofs.Turns.{Passed}
use Rattle.history.proofs.finding.find.Given as goal

abbrev pub invariant-loop-k : goal.invariant-loop-k
invariant-loop-k l =
    (l.k ≤ l.n) × Passed l.each l.fitting.0 l.q l.table (length l.initial.found) l.k l.open.0 l.near l.count l.found
