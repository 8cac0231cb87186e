use Rattle.std.proofs.Common.{◌<◌, arith}
use Rattle.format.specs.Rule.{rule_at}
use Rattle.rule_tests.proofs.Bounded.{span-past, span-fixed, span-range, span-type, span-rises}
use Rattle.rule_tests.proofs.bounds.level_span.Goals.{Else-from-l, Start}
use Rattle.rule_tests.proofs.bounds.level_span.Goals as goal

used : (c : Else-from-l) → let a = c.args in a.l < (rule_at a.b.now).depth
unfolding rule_at
used c = omega (arith, c.from.ensures)

pub returns-then-from-l : goal.returns-then-from-l
unfolding rule_at
returns-then-from-l c =
    let a = c.args in
    span-past (rule_at a.b.now) a.l (omega (arith, c.from.ensures))

pub returns-then-b-at-eq-FIXED : goal.returns-then-b-at-eq-FIXED
unfolding rule_at
returns-then-b-at-eq-FIXED c = let at = (goal.at.returns-then-b-at-eq-FIXED c).Else-from-l in let a = c.args in span-fixed (rule_at a.b.now) a.l (used at) c.if-b-at-eq-FIXED.true

pub overflow_sub-result : goal.overflow_sub-result
unfolding rule_at
overflow_sub-result c =
    let at = (goal.at.overflow_sub-result c).Else-from-l in
    let s = (goal.at.overflow_sub-result c).Start in
    let rises = span-rises (rule_at s.args.b.now) s.args.l (used at) s.requires.1 s.requires.0 c.if-b-at-eq-RANGE.true in
    omega (arith, rises, c.u16_at.ensures.0, c.u16_at-then-b-at-eq-RANGE.ensures.0)

pub returns-then-b-at-eq-RANGE : goal.returns-then-b-at-eq-RANGE
unfolding rule_at
returns-then-b-at-eq-RANGE c =
    let at = (goal.at.returns-then-b-at-eq-RANGE c).Else-from-l in
    let a = c.args in
    rw (c.u16_at.ensures.0, c.u16_at-then-b-at-eq-RANGE.ensures.0) (span-range (rule_at a.b.now) a.l (used at) c.if-b-at-eq-RANGE.true)

pub returns : goal.returns
unfolding rule_at
returns c =
    let at = (goal.at.returns c).Else-from-l in
    let a = c.args in
    rw c.from-2.ensures (span-type (rule_at a.b.now) a.l (used at) c.if-b-at-eq-FIXED.false c.if-b-at-eq-RANGE.false)
