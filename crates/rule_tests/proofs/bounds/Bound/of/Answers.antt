use Rattle.words.specs.Lists.{tab}
use Rattle.rule_tests.specs.Bounds.{bound_of}
use Rattle.rule_tests.proofs.GoodLevels.{rule-narrow}
use Rattle.rule_tests.proofs.bounds.Bound.of.Goals as goal

pub returns-clause-bound : goal.returns-clause-bound
unfolding bound_of tab
returns-clause-bound c =
    rw (c.level_first.ensures, c.level_first-2.ensures, c.level_first-3.ensures, c.level_first-4.ensures, c.level_span.ensures, c.level_span-2.ensures, c.level_span-3.ensures, c.level_span-4.ensures)

pub returns-clause-narrow : goal.returns-clause-narrow
returns-clause-narrow c = rule-narrow c.args.b.now c.fits-b
