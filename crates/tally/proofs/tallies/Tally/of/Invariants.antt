use Rattle.tally.proofs.Taken.{fresh}
use Rattle.tally.specs.Code.{counted_at}
use Rattle.format.specs.Rule.{exclusion_at}
use lib.ListN.{length}
use mathlib.Core.Path.{◌≡◌}
use Prim.Native.Nat.{ℕ, ◌≤◌, ◌<◌}
use Rattle.tally.proofs.tallies.Tally.of.Given as goal

abbrev pub invariant-loop-k : goal.invariant-loop-k
invariant-loop-k l =
    (l.k ≤ 8) × ((length l.members ≡ 8) × ((i : ℕ) → i < l.k → counted_at l.members i ≡ fresh ((exclusion_at l.b l.e).member i)))
