use Rattle.format.specs.Rule.{good_steps, rule_at}
use Rattle.drafts.proofs.limits.steps_within.Goals as goal

pub returns : goal.returns
unfolding good_steps rule_at
returns c = cc
