use native.Mathlib.Omega.{arith}
use Rattle.history.proofs.Turns.{count-start, count-apart, count-more, count-end}
use Rattle.history.proofs.pasts.past_of.Goals.{then-stands_in, else-stands_in}
use Rattle.history.proofs.pasts.past_of.Goals as goal

pub loop-start-init : goal.loop-start-init
loop-start-init c =
    let a = c.args in
    count-start a.each a.q.now a.i a.table.now a.found.now a.past.now

pub loop-start-preserved : goal.loop-start-preserved
loop-start-preserved c =
    let a = c.args in
    let l = c.loop-start in
    elim c.if-stands_in.branch [
      | then-stands_in w ↦
          rw (w.past-is, w.count-is)
          (count-more a.each a.q.now a.i a.table.now a.found.now c.from-at.ensures (omega arith) l.invariant c.stands_in.ensures w.if-stands_in.true w.read.ensures
          (omega (arith, l.invariant.few, l.invariant.sized, c.requires.i_bound.1)))
      | else-stands_in w ↦
          rw (w.past-is, w.count-is) (count-apart a.each a.q.now a.i a.table.now a.found.now c.from-at.ensures (omega arith) l.invariant c.stands_in.ensures w.if-stands_in.false)
    ]

pub returns : goal.returns
returns c =
    let a = c.args in
    count-end a.each a.q.now a.i a.table.now a.found.now (omega arith) c.loop-start.invariant
