use Prim.Native.Nat.{◌≤◌}
use mathlib.Core.Path.{◌≡◌}
use lib.ListN.{length, take}
use Rattle.text_write.specs.Laid.{laid}
use Rattle.text_write.proofs.put.put.Given as goal

abbrev pub invariant-loop-i : goal.invariant-loop-i
invariant-loop-i l = (l.i ≤ length l.s) × (length l.output ≡ length l.initial.output) × (l.output ≡ laid l.initial.output l.at (take l.i l.s))
