use Rattle.std.proofs.Common.{◌&&◌, ap₂}
use Rattle.rule_tests.specs.Bounds.{bound_fits}
use Rattle.rule_tests.proofs.bounds.Bound.fits.Goals as goal

pub returns : goal.returns
unfolding bound_fits
returns c = ap₂ ◌&&◌ c.pair_fits.ensures c.pair_fits-2.ensures
