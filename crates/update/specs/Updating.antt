-- Steps 4 and 5 over bytes: what they answer, and the table that they leave.
-- Assumes nothing.
use Rattle.std.specs.Prelude.{ℕ, ◌≡◌, List, length, leb}
use Rattle.std.proofs.Math.Option.{none}
use Rattle.words.specs.First.{unless}
use Rattle.words.specs.Sums.{Sums}
use Rattle.format.specs.Answer.{refusal, Outcome, refusing}
use Rattle.format.specs.Layout.{capacity}
use Rattle.format.specs.Block.{blocks}
use Rattle.format.specs.Request.{Request}
use Rattle.format.specs.Policy.{policy_fault, policy_of, stamp}
use Rattle.format.specs.Table.{table_fault, records_of, table_image}
use Rattle.judge.specs.NewTable.{open_in, grant_of, table_after}
use Rattle.fields.specs.declared.sets.RuleSet.{RuleSet}
use Rattle.clearing.specs.declared.ending.Ending.{Ending}
use Rattle.matching.specs.Masks.{EachOf}
use Rattle.matching.specs.Sets.{EffectIs}

-- what the code is given, under a policy: it is accepted, and its stamp is t; the table is accepted, and has n records; the four masks are the
-- policy's; and what a grant of the request ends and gives is what step 4 says
pub record Judged (policy : List ℕ) (t : Sums) (e : Ending) (given : RuleSet) (q : Request) (table : List ℕ) (n : ℕ) : Type 0 where
  pub accepted : policy_fault policy ≡ none
  pub stamp-is : t ≡ stamp policy
  pub accepted-table : table_fault policy table ≡ none
  pub held-are : n ≡ length (records_of table)
  pub masks : EachOf (policy_of policy) e.each
  pub effect_is : EffectIs (policy_of policy) q (open_in (policy_of policy) (records_of table) q) (record { ends = e.rules; gives = given })

-- what a request that has passed steps 1 to 3 gets: the refusal 34 and the table as it was, or the grant and the new table
unfoldable pub update_of : List ℕ → List ℕ → List ℕ → Outcome (List ℕ)
update_of policy table q =
    refusing (unless (leb (length (table_after (policy_of policy) (records_of table) q)) (capacity (blocks table))) (refusal 34 0 0)) table
    (record {
      answer = grant_of (policy_of policy) q (open_in (policy_of policy) (records_of table) q) (records_of table);
      state = table_image (stamp policy) (blocks table) (table_after (policy_of policy) (records_of table) q);
    })
