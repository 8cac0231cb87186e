use Prim.Native.Nat.{◌-◌, ◌≤◌}
use mathlib.Core.Path.{◌≡◌}
use Rattle.words.specs.First.{first}
use Rattle.policy_check.specs.Parts.{entry_fault, entries_fault}
use Rattle.policy_check.proofs.permission.entries_fault.Given as goal

abbrev pub invariant-loop-i : goal.invariant-loop-i
invariant-loop-i l = (l.i ≤ l.n) × (first (entry_fault l.k l.b) l.i (l.n - l.i) ≡ entries_fault l.k l.b)
