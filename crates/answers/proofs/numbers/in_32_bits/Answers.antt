use mathlib.Core.Path.{◌∙◌}
use Rattle.answers.proofs.Narrow.{narrow-or}
use Rattle.answers.proofs.numbers.in_32_bits.Goals as goal

pub returns : goal.returns
returns c = c.unwrap_or.ensures ∙ narrow-or _ _ c.try_from.ensures
