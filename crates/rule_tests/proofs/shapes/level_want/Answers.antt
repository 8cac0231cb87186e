use Rattle.format.specs.Rule.{rule_at}
use Rattle.rule_tests.specs.Shapes.{level_want}
use Rattle.rule_tests.proofs.shapes.level_want.Goals as goal

pub returns : goal.returns
unfolding level_want rule_at
returns c = cc
