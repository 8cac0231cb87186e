use native.Mathlib.Omega.{arith}
use mathlib.Core.Path.{ap, ◌∙◌}
use mathlib.Core.Bool.{◌||◌}
use Rattle.fields.specs.Code.{has_block}
use Rattle.table_write.proofs.Placed.{grown-blocks}
use Rattle.table_write.proofs.places.with_grown.Goals as goal

pub returns : goal.returns
returns c k =
    let a = c.args in
    c.with_range.ensures k ∙ ap (λ b. b || has_block a.changed k) (grown-blocks a.fewer a.more _ k c.requires.0 (omega arith))
