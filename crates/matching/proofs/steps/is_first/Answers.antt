use Rattle.judge.specs.Verdict.{is_first}
use Rattle.format.specs.Rule.{rule_at}
use Rattle.matching.proofs.steps.is_first.Goals as goal

pub returns : goal.returns
unfolding rule_at is_first
returns c = c.does_step.ensures
