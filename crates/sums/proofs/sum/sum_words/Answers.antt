use Rattle.std.proofs.Common.{◌≡◌, ◌/◌, ◌∙◌, add-one, arith}
use Rattle.word_laws.proofs.Sums.{sums-more}
use Rattle.sums.proofs.Fours.{fours-sums}
use Rattle.sums.proofs.sum.sum_words.Goals as goal

-- src/sum.rt:109:28
pub sum_fours-requires : goal.sum_fours-requires
sum_fours-requires c = omega arith

-- src/sum.rt:109:9
pub together-sum-requires : goal.together-sum-requires
together-sum-requires c = omega arith

-- src/sum.rt:110:14
pub overflow_step-i : goal.overflow_step-i
overflow_step-i c = omega arith

-- src/sum.rt:110:5
pub loop-i-init : goal.loop-i-init
loop-i-init c =
    let a = c.args in
    (omega arith, c.together-sum.ensures ∙ rw c.sum_fours.ensures (fours-sums a.s.now a.at (a.n / 4) (omega arith)))

-- src/sum.rt:111:38
pub overflow_mul-i : goal.overflow_mul-i
overflow_mul-i c = omega arith

-- src/sum.rt:111:33
pub overflow_add-at : goal.overflow_add-at
overflow_add-at c = omega arith

-- src/sum.rt:111:23
pub u32_at-requires : goal.u32_at-requires
u32_at-requires c = omega arith

-- src/sum.rt:110:9
pub overflow_step-i-in-loop-i : goal.overflow_step-i-in-loop-i
overflow_step-i-in-loop-i c = omega arith

-- src/sum.rt:110:5
pub loop-i-smaller : goal.loop-i-smaller
loop-i-smaller c = omega arith

-- src/sum.rt:110:5
pub loop-i-preserved : goal.loop-i-preserved
loop-i-preserved c =
    let a = c.args in
    let l = c.loop-i in
    (omega arith, rw (add-one, sums-more a.s.now a.at l.i (omega arith)) (cc))

-- src/sum.rt:104:1
pub returns : goal.returns
returns c = let e : c.loop-i.i ≡ c.args.n = omega arith in rw (← e) c.loop-i.invariant.1
