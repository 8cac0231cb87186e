use Rattle.format.specs.Rule.{good_rule_bytes}
use Rattle.policy_check.proofs.rule.good_rule_bytes.Goals as goal

pub returns : goal.returns
unfolding good_rule_bytes
returns c = cc
