use mathlib.Core.Path.{ap, ap₂}
use mathlib.Core.Bool.{Bool, ◌&&◌}
use lib.Dec.{eqb}
use Rattle.words.specs.Sums.{Sums}
use Rattle.format.specs.Block.{good_check, check_of}
use Rattle.policy_check.proofs.block.good_check.Goals as goal

pub returns : goal.returns
unfolding good_check check_of
returns c =
    let e = c.sum_words-sum.ensures in
    ap₂ ◌&&◌
    (ap₂ {C = Bool} eqb (ap (λ (x : Sums). x.a) e) c.u32_at.ensures)
    (ap₂ {C = Bool} eqb (ap (λ (x : Sums). x.b) e) c.u32_at-2.ensures)
