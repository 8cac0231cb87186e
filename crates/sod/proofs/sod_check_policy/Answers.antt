use mathlib.Core.Path.{ap, ◌∙◌}
use Rattle.answers.specs.Numbers.{four}
use Rattle.sod.proofs.sod_check_policy.Goals as goal

pub returns : goal.returns
returns c = c.from.ensures ∙ ap four c.check_policy.ensures
