use Rattle.judge.specs.Verdict.{is_last}
use Rattle.format.specs.Rule.{rule_at}
use Rattle.matching.proofs.steps.is_last.Goals as goal

pub returns : goal.returns
unfolding rule_at is_last
returns c = c.does_step.ensures
