use mathlib.Core.Path.{ap, ◌∙◌}
use mathlib.Core.List.{List}
use Prim.Native.Nat.{ℕ}
use Rattle.format.specs.Answer.{Outcome}
use Rattle.answers.specs.Numbers.{four}
use Rattle.session.proofs.Turns.{call-of-decision, call-of-closing}
use Rattle.session.proofs.run.call.Goals as goal

pub returns-then-kind-eq0 : goal.returns-then-kind-eq0
returns-then-kind-eq0 c =
    let a = c.args in
    let e = call-of-decision a.policy.now a.table.now a.bytes.now a.kind c.if-kind-eq0.true c.decide.ensures in
    (c.from.ensures ∙ ap (λ (o : Outcome (List ℕ)). four o.answer) e, ap (λ (o : Outcome (List ℕ)). o.state) e)

pub returns : goal.returns
returns c =
    let a = c.args in
    let e = call-of-closing a.policy.now a.table.now a.bytes.now a.kind c.if-kind-eq0.false c.close.ensures in
    (c.from-2.ensures ∙ ap (λ (o : Outcome (List ℕ)). four o.answer) e, ap (λ (o : Outcome (List ℕ)). o.state) e)
