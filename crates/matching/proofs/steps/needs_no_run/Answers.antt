use Rattle.format.specs.Rule.{rule_at}
use Rattle.matching.proofs.steps.needs_no_run.Goals as goal

pub returns : goal.returns
unfolding rule_at
returns c = cc
