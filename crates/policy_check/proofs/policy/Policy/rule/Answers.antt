use native.Mathlib.Omega.{arith}
use Rattle.format_laws.proofs.AcceptedPolicy.{rule-inside}
use Rattle.policy_check.proofs.policy.Policy.rule.Goals as goal

pub block-requires : goal.block-requires
block-requires c = let p = c.args.self.now in rule-inside p.image.now p.accepted c.args.i (omega (arith, c.requires, p.rules_are))
