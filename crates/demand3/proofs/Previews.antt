-- Previews among the other calls: crates/register/specs/Previews.antt says in plain words what is claimed.
-- Assumes nothing.
use Prim.Native.Nat.{ℕ}
use mathlib.Core.Path.{◌≡◌, refl, ap, ◌∙◌}
use mathlib.Core.List.{List, [], ◌∷◌, map}
use Rattle.judge.specs.Decide.{decide}
use Rattle.judge.specs.Preview.{preview}
use Rattle.format.specs.Answer.{Answer}
use Rattle.format.specs.Table.{fresh_table}
use Rattle.register.specs.Calls.{call_step}
use Rattle.register.specs.Demand3.{Demand3, answers, after}
use Rattle.register.specs.Previews.{Asked, calling, previewing, ask_step, called, to_calls, LeftOut, Harmless, Foretold, LikeRegister}
use Rattle.demand3.proofs.Demand3.{demand-3, last-table}

-- by induction over the calls: a preview leaves the table, and its answer is not among the others'
same-answers :
    (policy table : List ℕ) (asked : List Asked)
    → to_calls asked (answers (ask_step policy) table asked) ≡ answers (call_step policy) table (called asked)
unfolding to_calls answers ask_step called
same-answers policy table [] = refl
same-answers policy table (calling c ∷ cs) =
    ap (λ (told : List Answer). (call_step policy table c).answer ∷ told) (same-answers policy (call_step policy table c).state cs)
same-answers policy table (previewing q ∷ cs) = same-answers policy table cs

same-table :
    (policy table : List ℕ) (asked : List Asked) → after (ask_step policy) table asked ≡ after (call_step policy) table (called asked)
unfolding after ask_step called
same-table policy table [] = refl
same-table policy table (calling c ∷ cs) = same-table policy (call_step policy table c).state cs
same-table policy table (previewing q ∷ cs) = same-table policy table cs

pub harmless : Harmless
unfolding Harmless
harmless policy table asked = record { answers-same = same-answers policy table asked; table_same = same-table policy table asked }

-- previews alone leave the table as it was
same-for-previews : (policy table : List ℕ) (others : List (List ℕ)) → after (ask_step policy) table (map previewing others) ≡ table
unfolding after ask_step
same-for-previews policy table [] = refl
same-for-previews policy table (q ∷ qs) = same-for-previews policy table qs

pub foretold : Foretold
unfolding Foretold preview
foretold policy table q others = ap (λ t. (decide policy t q).answer) (same-for-previews policy table others)

pub like-register : LikeRegister
unfolding LikeRegister Demand3 Harmless
like-register policy accepted b some_block few-blocks asked =
    record {
      answers-same = h.answers-same ∙ (demand-3 policy accepted b some_block few-blocks (called asked)).answers-same;
      table_same = h.table_same ∙ last-table policy accepted b some_block few-blocks (called asked);
    }
  where
    h : LeftOut policy (fresh_table policy b) asked
    h = harmless policy (fresh_table policy b) asked
