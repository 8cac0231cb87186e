use Rattle.format.specs.Rule.{good_level}
use Rattle.policy_check.proofs.rule.good_level.Goals as goal

pub returns : goal.returns
unfolding good_level
returns c = cc
