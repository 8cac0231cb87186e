use Rattle.format.specs.Rule.{good_rule, rule_at}
use Rattle.policy_check.proofs.rule.good_rule.Goals as goal

pub returns : goal.returns
unfolding good_rule rule_at
returns c = cc
