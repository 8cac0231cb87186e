use mathlib.Core.Path.{◌∙◌}
use Rattle.matching.proofs.RuleSets.{ends-are, gives-are}
use Rattle.matching.proofs.rules.Matched.effect.Goals as goal

pub returns : goal.returns
returns c = λ p q open_run is e.
    let self = c.args.self in
    record { ends-are = c.and.ensures ∙ ends-are p q self is open_run e; gives-are = c.without.ensures ∙ gives-are p q self is open_run e }
