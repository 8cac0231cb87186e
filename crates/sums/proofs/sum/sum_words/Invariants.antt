use Rattle.std.proofs.Common.{◌≡◌, ◌*◌, ◌≤◌}
use Rattle.words.specs.Bytes.{part}
use Rattle.words.specs.Sums.{sums, words}
use Rattle.sums.specs.Code.{sums_of}
use Rattle.sums.proofs.sum.sum_words.Given as goal

abbrev pub invariant-loop-i : goal.invariant-loop-i
invariant-loop-i l = (l.i ≤ l.n) × (sums_of l.sum ≡ sums (words (part l.s l.at (4 * l.i))))
