use mathlib.Core.Path.{sym, ◌∙◌}
use native.Mathlib.Omega.{arith}
use Rattle.word_laws.proofs.First.{unless-passes, unless-fails, first-start, first-hit, first_more, first_done}
use Rattle.policy_check.specs.Parts.{entry_fault}
use Rattle.policy_check.proofs.permission.entries_fault.Goals as goal

pub loop-i-init : goal.loop-i-init
loop-i-init c = (omega arith, rw c.u16_at-n.ensures.0 (first-start _ _))

pub returns-then-not-good_permission : goal.returns-then-not-good_permission
returns-then-not-good_permission c =
    let a = c.args in
    let l = c.loop-i in
    first-hit (entry_fault a.k a.b.now) l.i _ l.invariant.1 (omega arith)
    (unless-fails _ (sym c.good_permission.ensures ∙ c.if-not-good_permission.true))

pub loop-i-preserved : goal.loop-i-preserved
loop-i-preserved c =
    let l = c.loop-i in
    (omega arith, first_more _ l.i _ l.invariant.1 (omega arith) (unless-passes _ (sym c.good_permission.ensures ∙ c.if-not-good_permission.false)))

pub returns : goal.returns
returns c = first_done _ _ _ c.loop-i.invariant.1 c.loop-i-test.false
