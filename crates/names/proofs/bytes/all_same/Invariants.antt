use Prim.Native.Nat.{◌≤◌}
use mathlib.Core.Path.{◌≡◌}
use lib.ListN.{length}
use Rattle.words.specs.Lists.{all_below}
use Rattle.names.proofs.SameParts.{same_at}
use Rattle.names.proofs.bytes.all_same.Given as goal

abbrev pub invariant-loop-i : goal.invariant-loop-i
invariant-loop-i l = (l.i ≤ length l.a) × (l.same ≡ all_below l.i (same_at l.a l.b))
