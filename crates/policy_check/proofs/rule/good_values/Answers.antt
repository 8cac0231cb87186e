use mathlib.Core.Path.{refl, sym}
use mathlib.Core.Bool.{or-false}
use borrow.Author.Tests.{ne_eqb}
use Rattle.format.specs.Rule.{good_mark}
use Rattle.policy_check.proofs.rule.good_values.Goals as goal

pub returns-then-mark-eq-RANGE : goal.returns-then-mark-eq-RANGE
unfolding good_mark
returns-then-mark-eq-RANGE c = rw c.if-mark-eq-RANGE.true refl

pub returns : goal.returns
returns c = rw (c.good_mark.ensures, ne_eqb _ _ c.if-mark-eq-RANGE.false) (sym (or-false _))
