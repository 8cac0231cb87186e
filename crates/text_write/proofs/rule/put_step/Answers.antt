use Rattle.forms.specs.Form.{ascii}
use Rattle.policy_check.specs.Parts.{step_at}
use Rattle.text_write.proofs.Texts.{step-none, step_set}
use Rattle.text_write.proofs.rule.put_step.Goals as goal

pub returns-then-b-flag-ne1 : goal.returns-then-b-flag-ne1
returns-then-b-flag-ne1 c =
    let a = c.args in
    step-none a.names.now.list.now a.start.now (step_at a.b.now a.flag a.step) a.output.now a.at c.if-b-flag-ne1.true

pub returns : goal.returns
unfolding ascii
returns c =
    let a = c.args in
    step_set a.names.now.list.now a.start.now (step_at a.b.now a.flag a.step) c.put_pair.result c.if-b-flag-ne1.false c.read.ensures c.put_pair.ensures
