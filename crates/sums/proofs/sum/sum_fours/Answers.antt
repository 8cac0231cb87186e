use Rattle.std.proofs.Common.{◌≡◌, refl, add-one, arith}
use Rattle.sums.specs.Code.{fours, add_four}
use Rattle.sums.proofs.Fours.{fours-more}
use Rattle.sums.proofs.sum.sum_fours.Goals as goal

-- src/sum.rt:55:5
pub loop-i-init : goal.loop-i-init
unfolding fours
loop-i-init c = (omega arith, refl)

-- src/sum.rt:55:5
pub loop-i-preserved : goal.loop-i-preserved
unfolding add_four
loop-i-preserved c =
    let a = c.args in
    let l = c.loop-i in
    (omega arith, rw (add-one, fours-more a.s.now a.at l.i, ← l.invariant.1) (cc))

-- src/sum.rt:47:1
pub returns : goal.returns
returns c = let e : c.loop-i.i ≡ c.args.n = omega arith in rw (← e) c.loop-i.invariant.1
