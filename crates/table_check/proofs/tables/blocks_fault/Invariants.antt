use Prim.Native.Nat.{◌-◌}
use mathlib.Core.Path.{◌≡◌}
use Rattle.words.specs.First.{first}
use Rattle.sums.specs.Code.{sums_of}
use Rattle.format.specs.Policy.{policy_of}
use Rattle.format.specs.Table.{table_block_fault}
use Rattle.table_check.specs.CheckParts.{short_before}
use Rattle.table_check.proofs.tables.blocks_fault.Given as goal

abbrev pub invariant-loop-k : goal.invariant-loop-k
invariant-loop-k l =
    let fault = table_block_fault (policy_of l.tests.policy.image.now) (sums_of l.stamp) l.table in
    (l.short ≡ short_before l.table l.k) × (first fault l.k (l.n - l.k) ≡ first fault 0 l.n)
