use mathlib.Core.Path.{ap, ◌∙◌}
use lib.Bits.{bit_or}
use Rattle.matching.proofs.RuleSets.{judging-is}
use Rattle.matching.proofs.rules.Matched.judging.Goals as goal

pub returns : goal.returns
returns c = λ p q is.
    let a = c.args in
    c.or.ensures ∙ ap (bit_or a.self.starting.0) c.and.ensures ∙ judging-is p q a.self is a.opened.0
