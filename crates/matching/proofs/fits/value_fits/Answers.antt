use Rattle.format.specs.Rule.{level_at}
use Rattle.matching.proofs.Levels.{fixed-value, range-value, other-value}
use Rattle.matching.proofs.fits.value_fits.Goals as goal

pub returns-then-mark-eq-FIXED : goal.returns-then-mark-eq-FIXED
returns-then-mark-eq-FIXED c =
    let a = c.args in
    rw c.u16_at.ensures.0 (fixed-value (level_at a.b.now a.i) a.value c.if-mark-eq-FIXED.true)

pub returns-then-mark-eq-RANGE : goal.returns-then-mark-eq-RANGE
returns-then-mark-eq-RANGE c =
    let a = c.args in
    rw (c.u16_at-then-mark-eq-RANGE.ensures.0, c.u16_at-then-mark-eq-RANGE-2.ensures.0) (range-value (level_at a.b.now a.i) a.value c.if-mark-eq-RANGE.true)

pub returns : goal.returns
returns c =
    let a = c.args in
    other-value (level_at a.b.now a.i) a.value c.if-mark-eq-FIXED.false c.if-mark-eq-RANGE.false
