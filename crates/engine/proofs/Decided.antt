-- What `decide` comes to, by the first row that applies: a refusal with the table as it was, or the judgement's grant and table.
-- Assumes nothing.
use Prim.Native.Nat.{ℕ}
use mathlib.Core.Path.{◌≡◌, ◌∙◌}
use mathlib.Core.Bool.{Bool, true, false}
use mathlib.Core.List.{List}
use mathlib.Core.Option.{none, some}
use lib.ListN.{length}
use lib.Dec.{leb}
use Rattle.word_laws.proofs.First.{none-or_else, unless-passes, unless-fails}
use Rattle.format.specs.Answer.{refuse, Refusal, refusal, refusing}
use Rattle.format.specs.Layout.{capacity}
use Rattle.format.specs.Block.{blocks}
use Rattle.format.specs.Request.{request_fault}
use Rattle.format.specs.Policy.{Policy, policy_fault, policy_of, stamp}
use Rattle.format.specs.Table.{Record, table_fault, table_image, records_of}
use Rattle.judge.specs.NewTable.{judge_fault, judge, grant_of, open_in, past_in, table_after}
use Rattle.judge.specs.Verdict.{verdict}
use Rattle.judge.specs.Decide.{decide_fault, decide}
use Rattle.format_laws.proofs.Rows.{first_some, policy-row, table-row, next_row, refused}

module _ (policy table request : List ℕ) where
  refuses : (r : Refusal) → decide_fault policy table request ≡ some r → record { answer = refuse r; state = table } ≡ decide policy table request
  unfolding decide
  refuses r e = refused (decide_fault policy table request) table _ r e

  clear-is :
      verdict (policy_of policy) request (open_in (policy_of policy) (records_of table) request) (past_in (policy_of policy) (records_of table) request) ≡ none
      → leb (length (table_after (policy_of policy) (records_of table) request)) (capacity (blocks table)) ≡ true
      → judge_fault (policy_of policy) (capacity (blocks table)) (records_of table) request ≡ none
  unfolding judge_fault
  clear-is passed e = none-or_else _ _ passed ∙ unless-passes (refusal 34 0 0) e

  pub by-policy : (r : Refusal) → policy_fault policy ≡ some r → record { answer = refuse r; state = table } ≡ decide policy table request
  unfolding decide_fault
  by-policy r e = refuses r (policy-row policy table _ r e)

  module _ (policy-good : policy_fault policy ≡ none) where
    pub by-table : (r : Refusal) → table_fault policy table ≡ some r → record { answer = refuse r; state = table } ≡ decide policy table request
    unfolding decide_fault
    by-table r e = refuses r (table-row policy table _ policy-good r e)

    module _ (table-good : table_fault policy table ≡ none) where
      pub by-request : (r : Refusal) → request_fault request ≡ some r → record { answer = refuse r; state = table } ≡ decide policy table request
      unfolding decide_fault
      by-request r e = refuses r (next_row policy table _ policy-good table-good ∙ first_some (request_fault request) _ r e)

      -- a good request is for the judge: what its verdict and step 5 say
      module _ (request-good : request_fault request ≡ none) where
        p : Policy
        p = policy_of policy

        rs : List Record
        rs = records_of table

        opened : ℕ → Bool
        opened = open_in p rs request

        fault-is : decide_fault policy table request ≡ judge_fault p (capacity (blocks table)) rs request
        unfolding decide_fault p rs
        fault-is = next_row policy table _ policy-good table-good ∙ none-or_else (request_fault request) _ request-good

        pub by-verdict :
            (r : Refusal) → verdict (policy_of policy) request (open_in (policy_of policy) (records_of table) request) (past_in (policy_of policy) (records_of table) request) ≡ some r
            → record { answer = refuse r; state = table } ≡ decide policy table request
        unfolding judge_fault p rs
        by-verdict r e = refuses r (fault-is ∙ first_some _ _ r e)

        module _ (passed : verdict (policy_of policy) request (open_in (policy_of policy) (records_of table) request) (past_in (policy_of policy) (records_of table) request) ≡ none) where
          pub by_size :
              leb (length (table_after (policy_of policy) (records_of table) request)) (capacity (blocks table)) ≡ false
              → record { answer = refuse (refusal 34 0 0); state = table } ≡ decide policy table request
          unfolding judge_fault p rs
          by_size e = refuses (refusal 34 0 0) (fault-is ∙ none-or_else _ _ passed ∙ unless-fails (refusal 34 0 0) e)

          pub granted :
              leb (length (table_after (policy_of policy) (records_of table) request)) (capacity (blocks table)) ≡ true
              → record {
                answer = grant_of (policy_of policy) request (open_in (policy_of policy) (records_of table) request) (records_of table);
                state = table_image (stamp policy) (blocks table) (table_after (policy_of policy) (records_of table) request);
              }
              ≡ decide policy table request
          unfolding decide judge refusing p rs
          granted e = rw (fault-is, clear)
            where
              clear : judge_fault (policy_of policy) (capacity (blocks table)) (records_of table) request ≡ none
              clear = clear-is passed e
