use Prim.Native.Nat.{◌-◌, ◌≤◌}
use mathlib.Core.Path.{◌≡◌}
use Rattle.words.specs.First.{first}
use Rattle.exclusion_check.specs.Parts.{exclusion_fault, exclusions_fault}
use Rattle.exclusion_check.proofs.exclusion.exclusions_fault.Given as goal

abbrev pub invariant-loop-e : goal.invariant-loop-e
invariant-loop-e l = (l.e ≤ 8) × (first (exclusion_fault l.k l.b) l.e (8 - l.e) ≡ exclusions_fault l.k l.b)
