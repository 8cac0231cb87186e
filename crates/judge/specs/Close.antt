-- W2, the sixth entry point, close: "Every record whose context begins with those levels is removed, and the number removed is returned .. Other
-- records keep the marks they had." Its answer and the table afterwards, byte by byte, for any policy, table and context of any bytes and length.
-- Assumes nothing.
use Rattle.std.specs.Prelude.{ℕ, not, List, length}
use Rattle.std.proofs.Math.Option.{Option}
use Rattle.words.specs.Lists.{keep}
use Rattle.words.specs.First.{◌or_else◌}
use Rattle.format.specs.Answer.{accept, Refusal, Outcome, refusing}
use Rattle.format.specs.Block.{blocks}
use Rattle.format.specs.Context.{context_fault, begins}
use Rattle.format.specs.Policy.{policy_fault, stamp}
use Rattle.format.specs.Table.{Record, table_fault, records_of, table_image}

-- the records that stay, in their order and with their marks
unfoldable pub closed : List ℕ → List Record → List Record
closed c rs = keep (λ r. not (begins c r.request)) rs

-- "the number removed"
unfoldable pub closed_out : List ℕ → List Record → ℕ
closed_out c rs = length (keep (λ r. begins c r.request) rs)

-- the policy's numbers, the table's; "After the table's numbers, a length other than 16 gives 21, a bad context 22."
unfoldable pub close_fault : List ℕ → List ℕ → List ℕ → Option Refusal
close_fault policy table context = policy_fault policy or_else table_fault policy table or_else context_fault context

-- a closing is accepted, with 0 too; a refusal leaves the table as it was
unfoldable pub close : List ℕ → List ℕ → List ℕ → Outcome (List ℕ)
close policy table context =
    refusing (close_fault policy table context) table
    (record {
      answer = accept (closed_out context (records_of table));
      state = table_image (stamp policy) (blocks table) (closed context (records_of table));
    })
