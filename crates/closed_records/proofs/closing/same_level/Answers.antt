use mathlib.Core.Path.{ap₂, ◌∙◌}
use mathlib.Core.Bool.{Bool}
use lib.Dec.{eqb}
use Rattle.closed_records.proofs.Closed.{level-same}
use Rattle.closed_records.proofs.closing.same_level.Goals as goal

pub returns : goal.returns
returns c =
    let a = c.args in
    ap₂ {C = Bool} eqb c.u32_at.ensures c.u32_at-2.ensures
    ∙ level-same a.context.now a.s.now (λ j. c.fits-context j) (λ j. (c.type_inv.s j).fits) a.at a.i c.requires.0
