-- The image that the register prescribes: "B blocks, the policy's stamp and one record for each register entry in some run, in the register's order,
-- bit r - 1 set exactly when a run of rule r has it."
-- Assumes nothing.
use Rattle.std.specs.Prelude.{ℕ, List, map}
use Rattle.words.specs.Lists.{keep}
use Rattle.words.specs.Bytes.{bits}
use Rattle.format.specs.Policy.{Policy, policy_of, stamp}
use Rattle.format.specs.Table.{Record, table_image}
use Rattle.register.specs.Run.{Event, Entry, entries_of}
use Rattle.register.specs.Register.{lies, lies_in_some}

unfoldable pub record_for : Policy → List Event → Entry → Record
record_for p l x = record { request = x.request; marks = bits p.rules (λ i. lies p l i x) }

unfoldable pub records_for : Policy → List Event → List Record
records_for p l = map (record_for p l) (keep (lies_in_some p l) (entries_of l))

unfoldable pub register_image : List ℕ → ℕ → List Event → List ℕ
register_image policy b l = table_image (stamp policy) b (records_for (policy_of policy) l)
