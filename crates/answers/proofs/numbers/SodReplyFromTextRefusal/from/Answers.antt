use mathlib.Core.Path.{sym, ap, ◌∙◌}
use native.Mathlib.Omega.{arith}
use Rattle.format.specs.Answer.{refuse}
use Rattle.format.specs.Code.{text_refusal_of}
use Rattle.answers.specs.Numbers.{four, four_of, narrowed}
use Rattle.answers.proofs.Narrow.{narrow_none}
use Rattle.answers.proofs.numbers.SodReplyFromTextRefusal.from.Goals as goal

pub returns-in-Policy : goal.returns-in-Policy
returns-in-Policy c =
    narrow_none (four_of c.from.result) (omega (arith, c.from.type_inv))
    ∙ ap narrowed c.from.ensures
    ∙ sym (ap (λ x. narrowed (four (refuse (text_refusal_of x)))) c.in-Policy.is)

pub returns-in-NotListed : goal.returns-in-NotListed
returns-in-NotListed c = c.refused-in-NotListed.ensures ∙ narrow_none _ (omega arith) ∙ sym (ap (λ x. narrowed (four (refuse (text_refusal_of x)))) c.in-NotListed.is)

pub returns-in-NotWithin : goal.returns-in-NotWithin
returns-in-NotWithin c = c.refused-in-NotWithin.ensures ∙ narrow_none _ (omega arith) ∙ sym (ap (λ x. narrowed (four (refuse (text_refusal_of x)))) c.in-NotWithin.is)
