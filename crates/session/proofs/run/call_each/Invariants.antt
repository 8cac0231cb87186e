use Prim.Native.Nat.{◌≤◌}
use mathlib.Core.Path.{◌≡◌}
use lib.ListN.{length}
use Rattle.register.specs.Calls.{call_step}
use Rattle.session.proofs.Turns.{Running}
use Rattle.session.proofs.run.call_each.Given as goal

abbrev pub invariant-loop-i : goal.invariant-loop-i
invariant-loop-i l =
    (l.i ≤ length l.lengths) × (l.at ≤ length l.bytes) × (length l.table ≡ length l.initial.table) × (length l.answers ≡ length l.initial.answers)
    × Running (call_step l.policy) l.initial.table l.kinds l.lengths l.bytes l.i l.at l.table l.answers
