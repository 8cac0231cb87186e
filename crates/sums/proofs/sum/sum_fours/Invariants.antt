use Rattle.std.proofs.Common.{◌≡◌, ◌≤◌}
use Rattle.sums.specs.Code.{sums_of, Fours, fours, word_from}
use Rattle.sums.proofs.sum.sum_fours.Given as goal

abbrev pub invariant-loop-i : goal.invariant-loop-i
invariant-loop-i l =
    (l.i ≤ l.n)
    × (◌≡◌ {A = Fours} (record { w = sums_of l.w; x = sums_of l.x; y = sums_of l.y; z = sums_of l.z }) (fours (word_from l.s l.at) l.i))
