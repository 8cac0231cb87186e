use mathlib.Core.Path.{ap₂, ◌∙◌}
use lib.Bits.{bit_or}
use Rattle.matching.specs.Masks.{apart_by}
use Rattle.matching.proofs.masks.apart.Goals as goal

pub returns : goal.returns
unfolding apart_by
returns c = c.or.ensures ∙ ap₂ bit_or c.apart_beside.ensures c.apart_at.ensures
