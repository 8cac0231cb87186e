use mathlib.Core.Path.{sym}
use native.Mathlib.Omega.{arith}
use Rattle.policy_check.proofs.Lengths.{policy-blocked}
use Rattle.policy_check.proofs.policy.Policy.check.Goals as goal

pub rule_count-requires : goal.rule_count-requires
rule_count-requires c = omega (arith, (policy-blocked _ (sym c.in_ok-policy_fault.ensures)).2)
