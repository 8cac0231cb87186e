use native.Mathlib.Omega.{arith}
use mathlib.Core.Path.{◌≡◌, ap, ◌∙◌}
use mathlib.Core.Bool.{◌||◌}
use lib.Dec.{eqb}
use Rattle.fields.proofs.BlockSets.{range_none, range-more}
use Rattle.fields.proofs.blocks.BlockSet.with_range.Goals as goal

pub loop-k-init : goal.loop-k-init
loop-k-init c = (omega arith, (omega arith, λ i. rw (range_none c.args.from i)))

pub loop-k-preserved : goal.loop-k-preserved
loop-k-preserved c =
    let l = c.loop-k in
    (omega arith, (omega arith, λ i. c.with-set.ensures i ∙ ap (λ b. eqb i l.k || b) (l.invariant.1.1 i) ∙ range-more _ l.k i _ l.invariant.0))

pub returns : goal.returns
returns c =
    let l = c.loop-k in
    let e : l.k ≡ c.args.to = omega arith in
    rw (← e) l.invariant.1.1
