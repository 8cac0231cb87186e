-- From what the code's steps promise, over the records that stand in the table, to what `decide` says, over the records that the table means.
-- Assumes nothing.
use Prim.Native.Nat.{ℕ}
use mathlib.Core.Path.{◌≡◌, refl}
use mathlib.Core.Bool.{Bool, true, false}
use mathlib.Core.List.{List}
use mathlib.Core.Option.{none}
use lib.ListN.{length}
use lib.Dec.{leb}
use Rattle.words.specs.First.{unless}
use Rattle.format.specs.Answer.{refusing}
use Rattle.format.specs.Layout.{request_bytes, capacity}
use Rattle.format.specs.Block.{blocks}
use Rattle.format.specs.Request.{request_fault}
use Rattle.format.specs.Policy.{policy_fault, policy_of}
use Rattle.format.specs.Table.{table_fault, records_of}
use Rattle.judge.specs.Verdict.{verdict}
use Rattle.judge.specs.NewTable.{open_in, past_in, table_after}
use Rattle.judge.specs.Decide.{decide}
use Rattle.words.specs.Sums.{Sums}
use Rattle.format.specs.Code.{fault_of}
use Rattle.format.specs.declared.answer.Refusal.{Refusal}
use Rattle.std.specs.Prelude.{Result, IfOk}
use Rattle.matching.specs.declared.masks.Each.{Each}
use Rattle.matching.specs.Sets.{EffectIs}
use Rattle.verdict.specs.declared.verdicts.Verdict.{Verdict}
use Rattle.verdict.specs.Code.{VerdictIs}
use Rattle.update.specs.Updating.{update_of}
use Rattle.update.proofs.Standing.{Standing}
use Rattle.format_laws.proofs.Rows.{first-length}
use Rattle.engine.proofs.Decided.{by_size, granted}

pub request-length : (q : List ℕ) → request_fault q ≡ none → length q ≡ request_bytes
unfolding request_fault
request-length q e = first-length q request_bytes _ _ e

-- the verdict over the records that stand in the table is the one over those that it means
module _ (policy table : List ℕ) (t : Sums) (n : ℕ) (standing : Standing policy t table n) (q : List ℕ) (e : Each) (v : Result Verdict Refusal) where
  module _ (is : VerdictIs (policy_of policy) e table n q v) where
    pub verdict-is :
        fault_of v ≡ verdict (policy_of policy) q (open_in (policy_of policy) (records_of table) q) (past_in (policy_of policy) (records_of table) q)
    verdict-is = rw (← standing.here) is.faults

    pub effect_is : IfOk v (λ x. EffectIs (policy_of policy) q (open_in (policy_of policy) (records_of table) q) x.effect)
    effect_is = rw (← standing.here) is.effect_is

-- a request that has passed steps 1 to 3 gets what steps 4 and 5 say
pub update-is :
    (policy table q : List ℕ) → policy_fault policy ≡ none → table_fault policy table ≡ none → request_fault q ≡ none
    → verdict (policy_of policy) q (open_in (policy_of policy) (records_of table) q) (past_in (policy_of policy) (records_of table) q) ≡ none
    → update_of policy table q ≡ decide policy table q
unfolding update_of refusing unless
update-is policy table q p t r v = go (leb (length (table_after (policy_of policy) (records_of table) q)) (capacity (blocks table))) refl
  where
    go : (b : Bool) → leb (length (table_after (policy_of policy) (records_of table) q)) (capacity (blocks table)) ≡ b → update_of policy table q ≡ decide policy table q
    go true e = rw e (granted policy table q p t r v e)
    go false e = rw e (by_size policy table q p t r v e)
