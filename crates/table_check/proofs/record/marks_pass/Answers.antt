use native.Mathlib.Omega.{arith}
use mathlib.Core.Path.{refl, sym, ◌∙◌}
use Rattle.table_check.proofs.Left.{passes, fails, more, place, less}
use Rattle.table_check.proofs.record.marks_pass.Goals as goal

pub returns-then-not-test : goal.returns-then-not-test
returns-then-not-test g c =
    let m = c.args.marks.0 in
    let l = c.loop-rest in
    λ f says.
    let left = l.invariant f says in
    fails f m l.rest c.loop-rest-test.true left (sym (says _ _ (place f m l.rest c.loop-rest-test.true left) c.test.ensures) ∙ c.if-not-test.true)

pub loop-rest-preserved : goal.loop-rest-preserved
loop-rest-preserved g c =
    let m = c.args.marks.0 in
    let l = c.loop-rest in
    λ f says.
    let left = l.invariant f says in
    more f m l.rest c.loop-rest-test.true left (sym (says _ _ (place f m l.rest c.loop-rest-test.true left) c.test.ensures) ∙ c.if-not-test.false)

pub returns : goal.returns
returns g c = λ f says. passes f c.args.marks.0 (rw c.loop-rest-test.false at (c.loop-rest.invariant f says))
