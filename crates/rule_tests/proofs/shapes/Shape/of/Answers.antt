use Rattle.rule_tests.proofs.GoodLevels.{rule-narrow}
use Rattle.rule_tests.proofs.shapes.Shape.of.Goals as goal

pub returns-clause-narrow : goal.returns-clause-narrow
returns-clause-narrow c = rule-narrow c.args.b.now c.fits-b
