use mathlib.Core.Path.{◌≡◌}
use native.Mathlib.Numerals.{add-one}
use native.Mathlib.Omega.{arith}
use Rattle.words.specs.Lists.{all_below}
use Rattle.words.specs.Bytes.{zero_from}
use borrow.Author.Rules.{rules}
use Rattle.fields.proofs.field.zero_from.Goals as goal

pub loop-i-init : goal.loop-i-init
unfolding zero_from all_below
loop-i-init c = search rules

pub overflow_add-good : goal.overflow_add-good
overflow_add-good c = omega arith

pub bounds-s-at : goal.bounds-s-at
bounds-s-at c = omega arith

pub overflow_step-i : goal.overflow_step-i
overflow_step-i c = omega arith

pub loop-i-smaller : goal.loop-i-smaller
loop-i-smaller c = omega arith

pub loop-i-preserved : goal.loop-i-preserved
unfolding zero_from all_below
loop-i-preserved c = (omega arith, rw add-one (cc))

pub returns : goal.returns
returns c = let e : c.loop-i.i ≡ c.args.n = omega arith in rw (← e) c.loop-i.invariant.1
