use native.Mathlib.Omega.{arith}
use Rattle.forms.specs.Form.{ascii}
use Rattle.format.specs.Rule.{rule_at}
use Rattle.text_write.specs.Lost.{rule_lost}
use Rattle.text_write.proofs.Texts.{rule-words}
use Rattle.text_write.proofs.Laying.{and_then, told, refused-both}
use Rattle.text_write.proofs.rule.put_rule.Goals as goal

pub returns : goal.returns
unfolding rule_lost ascii
returns c =
    let a = c.args in
    let context = c.put_context-context.ensures in
    let steps = c.put_steps-steps.ensures in
    let exclusions = c.put_exclusions-exclusions.ensures in
    let x = and_then (and_then (and_then c.put-first.ensures context.lays) c.put-third.ensures) steps.lays in
    record {
      lays = told (and_then (and_then x exclusions.lays) c.put.ensures) (rule-words a.names.now.list.now (rule_at a.b.now)) (omega arith);
      named = refused-both _ _ (refused-both _ _ context.named steps.named c.and-stepped.ensures) exclusions.named c.and.ensures;
    }
