use native.Mathlib.Omega.{arith}
use mathlib.Core.Path.{refl}
use Rattle.forms.specs.Form.{ascii}
use Rattle.format.specs.Rule.{rule_at}
use Rattle.text_write.proofs.Laying.{and_then, told, refused-both}
use Rattle.text_write.proofs.rule.put_steps.Goals as goal

pub returns : goal.returns
unfolding rule_at ascii
returns c =
    let first = c.put_step-first.ensures in
    let last = c.put_step-last.ensures in
    record { lays = told (and_then first.lays last.lays) refl (omega arith); named = refused-both _ _ first.named last.named c.and.ensures }
