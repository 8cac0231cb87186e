use Rattle.rule_tests.specs.Bounds.{pair_fits}
use Rattle.rule_tests.proofs.bounds.Bound.pair_fits.Goals as goal

pub returns : goal.returns
unfolding pair_fits
returns c = rw (c.reaches.ensures, c.reaches-2.ensures, c.level_number-first.ensures, c.level_number-second.ensures)
