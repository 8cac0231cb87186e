use mathlib.Core.Path.{◌≡◌, sym, ap, ◌∙◌}
use mathlib.Core.Bool.{true, not}
use lib.ListN.{length}
use lib.Dec.{eqb}
use borrow.Author.Tests.{eq-eqb, ne_eqb, not-true, not-false}
use Rattle.word_laws.proofs.First.{unless-passes, unless-fails, test-passes, test-fails}
use Rattle.word_laws.proofs.Parts.{part-whole}
use Rattle.format.specs.Answer.{refusal}
use Rattle.format.specs.Request.{good_context}
use Rattle.format.specs.Context.{context_fault}
use Rattle.request_check.proofs.context.context_fault.Goals.{After-good_context}
use Rattle.request_check.proofs.context.context_fault.Goals as goal

-- its length is right, and the call speaks of the whole
long : (c : After-good_context) → eqb (length c.args.c.now) 16 ≡ true
long c = eq-eqb (length c.args.c.now) 16 c.in-Ok.ensures.1.long

said : (c : After-good_context) → good_context c.args.c.now ≡ c.good_context.result
said c =
    let w = c.in-Ok.ensures.1 in
    rw (w.same, part-whole c.args.c.now 16 w.long) at (sym c.good_context.ensures)

pub returns-in_default-clause-fault : goal.returns-in_default-clause-fault
unfolding context_fault
returns-in_default-clause-fault c = sym (test-fails (refusal 21 0 0) _ (ne_eqb (length c.args.c.now) 16 c.in_default.ensures.1))

pub returns-then-not-good_context-clause-fault : goal.returns-then-not-good_context-clause-fault
unfolding context_fault
returns-then-not-good_context-clause-fault c =
    let a = (goal.at.returns-then-not-good_context-clause-fault c).After-good_context in
    sym (test-passes (refusal 21 0 0) _ (long a) ∙ unless-fails (refusal 22 0 0) (said a ∙ not-true c.good_context.result (ap not c.if-not-good_context.true)))

pub returns-clause-fault : goal.returns-clause-fault
unfolding context_fault
returns-clause-fault c =
    let a = (goal.at.returns-clause-fault c).After-good_context in
    sym (test-passes (refusal 21 0 0) _ (long a) ∙ unless-passes (refusal 22 0 0) (said a ∙ not-false c.good_context.result (ap not c.if-not-good_context.false)))
