use Rattle.format.specs.Rule.{rule_at}
use Rattle.format.specs.Fits.{fits}
use Rattle.matching.proofs.fits.fits.Goals as goal

pub returns : goal.returns
unfolding fits rule_at
returns c = rw (c.depth.ensures, c.levels_fit.ensures, c.from.ensures, c.from-2.ensures)
