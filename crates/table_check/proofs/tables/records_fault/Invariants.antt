use Prim.Native.Nat.{◌-◌}
use mathlib.Core.Path.{◌≡◌}
use Rattle.words.specs.First.{first}
use Rattle.format.specs.Policy.{policy_of}
use Rattle.format.specs.Table.{count}
use Rattle.table_check.specs.CheckParts.{record_fault_at, records_fault}
use Rattle.table_check.proofs.tables.records_fault.Given as goal

abbrev pub invariant-loop-i : goal.invariant-loop-i
invariant-loop-i l =
    let p = policy_of l.tests.policy.image.now in
    first (record_fault_at p l.k l.b) l.i (count l.b - l.i) ≡ records_fault p l.k l.b
