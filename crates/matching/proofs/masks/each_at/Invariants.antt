use Prim.Native.Nat.{◌≤◌}
use mathlib.Core.Path.{◌≡◌}
use Rattle.words.specs.Bytes.{bits}
use Rattle.format.specs.Policy.{policy_of}
use Rattle.matching.specs.Masks.{is_each}
use Rattle.matching.proofs.masks.each_at.Given as goal

abbrev pub invariant-loop-i : goal.invariant-loop-i
invariant-loop-i l = (l.i ≤ l.rules) × (l.mask ≡ bits l.i (is_each (policy_of l.policy.image.now) l.l))
