use Rattle.format.specs.Rule.{good_step}
use Rattle.policy_check.proofs.rule.good_step.Goals as goal

pub returns : goal.returns
unfolding good_step
returns c = cc
