-- The fourth entry point, decide: its answer and the table afterwards, byte by byte, for any policy, table and request of any bytes and length.
-- Assumes nothing.
use Rattle.std.specs.Prelude.{ℕ, List}
use Rattle.std.proofs.Math.Option.{Option}
use Rattle.words.specs.First.{◌or_else◌}
use Rattle.format.specs.Answer.{Refusal, Outcome, refusing}
use Rattle.format.specs.Layout.{capacity}
use Rattle.format.specs.Block.{blocks}
use Rattle.format.specs.Request.{request_fault}
use Rattle.format.specs.Policy.{policy_fault, policy_of, stamp}
use Rattle.format.specs.Table.{table_fault, records_of, table_image}
use Rattle.judge.specs.NewTable.{judge_fault, judge}

-- "Rows are tested from top to bottom": the policy's numbers, the table's, the request's, the judge's
unfoldable pub decide_fault : List ℕ → List ℕ → List ℕ → Option Refusal
decide_fault policy table request =
    policy_fault policy
    or_else table_fault policy table
    or_else request_fault request
    or_else judge_fault (policy_of policy) (capacity (blocks table)) (records_of table) request

-- a grant leaves the image of the judgement's records, a refusal the table as it was
unfoldable pub decide : List ℕ → List ℕ → List ℕ → Outcome (List ℕ)
decide policy table request =
    let judged = judge (policy_of policy) (capacity (blocks table)) (records_of table) request in
    refusing (decide_fault policy table request) table
    (record { answer = judged.answer; state = table_image (stamp policy) (blocks table) judged.state })
