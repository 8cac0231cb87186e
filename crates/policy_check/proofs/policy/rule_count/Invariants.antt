use Prim.Native.Nat.{◌≤◌}
use mathlib.Core.Path.{◌≡◌}
use Rattle.policy_check.specs.Parts.{rules_before}
use Rattle.policy_check.proofs.policy.rule_count.Given as goal

abbrev pub invariant-loop-k : goal.invariant-loop-k
invariant-loop-k l = (l.k ≤ l.total) × ((l.rules ≤ l.k) × (l.rules ≡ rules_before l.s l.k))
