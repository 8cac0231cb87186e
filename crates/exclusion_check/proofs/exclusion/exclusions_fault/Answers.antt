use mathlib.Core.Path.{sym, ◌∙◌}
use native.Mathlib.Omega.{arith}
use Rattle.word_laws.proofs.First.{unless-passes, unless-fails, first-start, first-hit, first_more, first_done}
use Rattle.exclusion_check.specs.Parts.{exclusion_fault}
use Rattle.exclusion_check.proofs.exclusion.exclusions_fault.Goals as goal

pub loop-e-init : goal.loop-e-init
loop-e-init c = (omega arith, first-start _ 8)

pub returns-then-not-good_exclusion_at : goal.returns-then-not-good_exclusion_at
returns-then-not-good_exclusion_at c =
    let a = c.args in
    let l = c.loop-e in
    first-hit (exclusion_fault a.k a.b.now) l.e 8 l.invariant.1 (omega arith)
    (unless-fails _ (sym c.good_exclusion_at.ensures ∙ c.if-not-good_exclusion_at.true))

pub loop-e-preserved : goal.loop-e-preserved
loop-e-preserved c =
    let l = c.loop-e in
    (omega arith, first_more _ l.e 8 l.invariant.1 (omega arith) (unless-passes _ (sym c.good_exclusion_at.ensures ∙ c.if-not-good_exclusion_at.false)))

pub returns : goal.returns
returns c = first_done _ _ 8 c.loop-e.invariant.1 c.loop-e-test.false
