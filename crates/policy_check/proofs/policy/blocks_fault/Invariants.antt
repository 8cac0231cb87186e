use Prim.Native.Nat.{◌-◌, ◌≤◌}
use mathlib.Core.Path.{◌≡◌}
use Rattle.words.specs.First.{first}
use Rattle.format.specs.Policy.{policy_block_fault}
use Rattle.policy_check.specs.Parts.{permission_before, blocks_fault}
use Rattle.policy_check.proofs.policy.blocks_fault.Given as goal

abbrev pub invariant-loop-k : goal.invariant-loop-k
invariant-loop-k l = (l.k ≤ l.total) × ((l.seen ≡ permission_before l.s l.k) × (first (policy_block_fault l.s) l.k (l.total - l.k) ≡ blocks_fault l.s))
