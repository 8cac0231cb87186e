use mathlib.Core.Path.{ap₂, ◌∙◌}
use lib.Bits.{bit_or}
use Rattle.matching.specs.Masks.{apart_beside}
use Rattle.matching.proofs.masks.apart_beside.Goals.{After-apart_at-arg-3-1}
use Rattle.matching.proofs.masks.apart_beside.Goals as goal

pub returns : goal.returns
unfolding apart_beside
returns c =
    let two = (goal.at.returns c).After-apart_at-arg-3-1 in
    c.or-2.ensures
    ∙ ap₂ bit_or
    (two.or.ensures ∙ ap₂ bit_or c.apart_at.ensures c.apart_at-2.ensures)
    c.apart_at-3.ensures
