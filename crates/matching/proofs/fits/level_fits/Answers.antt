use Prim.Native.Nat.{ℕ, ◌%◌}
use mathlib.Core.Path.{ap, ap₂}
use mathlib.Core.Bool.{◌&&◌}
use lib.Dec.{eqb}
use Rattle.format.specs.Fits.{level_fits}
use Rattle.matching.proofs.fits.level_fits.Goals as goal

pub returns : goal.returns
unfolding level_fits
returns c =
    let a = c.args in
    ap₂ ◌&&◌ (ap (λ (n : ℕ). eqb (a.level % 65536) n) c.u16_at.ensures.0) c.value_fits.ensures
