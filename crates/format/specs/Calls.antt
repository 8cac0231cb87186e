-- The first three entry points: "check a policy, check a table under a policy, make a fresh table in a lent buffer (1 to 6, then 11)".
-- What each answers for any bytes of any length; "Acceptance returns a policy's rules, a table's records, a fresh table's places (15 times B)."
-- Assumes nothing.
use Rattle.std.specs.Prelude.{ℕ, List, length}
use Rattle.words.specs.First.{◌or_else◌}
use Rattle.format.specs.Answer.{Answer, accept, Outcome, accepting, refusing}
use Rattle.format.specs.Layout.{capacity}
use Rattle.format.specs.Block.{blocks}
use Rattle.format.specs.Policy.{policy_fault, rule_count}
use Rattle.format.specs.Table.{table_fault, table_length_fault, records_of, fresh_table}

unfoldable pub check_policy : List ℕ → Answer
check_policy policy = accepting (policy_fault policy) (rule_count policy)

unfoldable pub check_table : List ℕ → List ℕ → Answer
check_table policy table = accepting (policy_fault policy or_else table_fault policy table) (length (records_of table))

-- the lent buffer's length says how many blocks the table gets
unfoldable pub make_table : List ℕ → List ℕ → Outcome (List ℕ)
make_table policy buffer =
    refusing (policy_fault policy or_else table_length_fault buffer) buffer
    (record { answer = accept (capacity (blocks buffer)); state = fresh_table policy (blocks buffer) })
