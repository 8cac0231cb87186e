use native.Mathlib.Omega.{arith}
use mathlib.Core.Path.{ap}
use Rattle.reader.proofs.Whole.{whole-start, whole-ends, whole-not}
use Rattle.reader.proofs.reached.reach_of.Goals as goal

pub loop-state-init : goal.loop-state-init
loop-state-init c = (ap (λ r. r.now) c.new-reader.ensures.0, (omega arith, rw c.new-reader.ensures.1 (whole-start _)))

pub returns-then-end-text : goal.returns-then-end-text
returns-then-end-text c = let l = c.loop-state in
    whole-ends _ l.reader.at c.run_end-end.result (rw c.loop-state-test.false at l.invariant.1.1) c.run_end-end.ensures c.if-end-text.true

pub returns-else-end-text : goal.returns-else-end-text
returns-else-end-text c = let l = c.loop-state in
    whole-not _ l.reader.at c.run_end-end.result (rw c.loop-state-test.false at l.invariant.1.1) c.run_end-end.ensures c.if-end-text.false
