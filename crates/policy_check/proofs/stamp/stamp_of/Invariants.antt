use Prim.Native.Nat.{◌*◌, ◌≤◌}
use mathlib.Core.Path.{◌≡◌}
use Rattle.words.specs.Bytes.{part}
use Rattle.words.specs.Sums.{sums, words}
use Rattle.sums.specs.Code.{sums_of}
use Rattle.policy_check.proofs.stamp.stamp_of.Given as goal

abbrev pub invariant-loop-k : goal.invariant-loop-k
invariant-loop-k l = (l.k ≤ l.total) × (sums_of l.sum ≡ sums (words (part l.s 0 (512 * l.k))))
