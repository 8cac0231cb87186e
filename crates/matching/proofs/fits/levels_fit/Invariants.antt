use Prim.Native.Nat.{◌≤◌}
use mathlib.Core.Path.{◌≡◌}
use Rattle.words.specs.Bytes.{part}
use Rattle.format.specs.Rule.{rule_at}
use Rattle.matching.specs.Levels.{fits_below}
use Rattle.matching.proofs.fits.levels_fit.Given as goal

abbrev pub invariant-loop-i : goal.invariant-loop-i
invariant-loop-i l = (l.i ≤ l.n) × (l.good ≡ fits_below (rule_at l.b) (part l.s l.at 28) l.i)
