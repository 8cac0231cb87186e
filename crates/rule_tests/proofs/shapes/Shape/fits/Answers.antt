use Rattle.std.proofs.Common.{refl}
use Rattle.rule_tests.specs.Shapes.{shape_fits}
use Rattle.rule_tests.proofs.shapes.Shape.fits.Goals as goal

pub returns : goal.returns
unfolding shape_fits
returns c = refl
