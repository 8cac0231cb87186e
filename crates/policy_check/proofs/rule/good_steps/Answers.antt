use Rattle.format.specs.Rule.{good_steps, rule_at}
use Rattle.policy_check.proofs.rule.good_steps.Goals as goal

pub returns : goal.returns
unfolding good_steps rule_at
returns c = cc
