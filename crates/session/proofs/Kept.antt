-- From `make_table`, `decide` and `close`, as the code promises them, to the register: demand 3.
-- Assumes nothing.
use Prim.Native.Nat.{ℕ}
use mathlib.Core.Path.{◌≡◌, refl, sym, ap, ◌∙◌}
use mathlib.Core.List.{List}
use mathlib.Core.Option.{Option, none, some}
use native.Mathlib.Omega.{arith}
use Rattle.words.specs.First.{◌or_else◌}
use Rattle.word_laws.proofs.First.{none_first, none-second, passes-unless}
use Rattle.format.specs.Answer.{Answer, accept, Refusal, Outcome, refusing}
use Rattle.format.specs.Layout.{capacity}
use Rattle.format.specs.Block.{blocks}
use Rattle.format.specs.Policy.{policy_fault}
use Rattle.format.specs.Table.{table_length_fault, fresh_table}
use Rattle.format.specs.Calls.{make_table}
use Rattle.register.specs.Calls.{Call, call_step}
use Rattle.register.specs.Demand3.{answers, after, Kept, Demand3}
use Rattle.demand3.proofs.Demand3.{demand-3, last-table}
use Rattle.demand3.proofs.Consequences.{untouched}
use Rattle.policy_check.proofs.Lengths.{Blocked, good-blocked}
use Rattle.session.specs.Session.{written, AsRegister, Ran}

module _ (policy buffer : List ℕ) where
  abbrev made : Outcome (List ℕ)
  made = record { answer = accept (capacity (blocks buffer)); state = fresh_table policy (blocks buffer) }

  -- where one is made, policy and length have passed, and it is the fresh one
  accepted-none : (n : ℕ) → (make_table policy buffer).answer ≡ accept n → policy_fault policy or_else table_length_fault buffer ≡ none
  unfolding make_table refusing
  accepted-none n = go (policy_fault policy or_else table_length_fault buffer)
    where
      go : (o : Option Refusal) → (refusing o buffer made).answer ≡ accept n → o ≡ none
      go none e = refl
      go (some x) e = absurd (let z : ◌≡◌ {A = ℕ} 0 1 = cc in omega arith)

  module _ (n : ℕ) (e : (make_table policy buffer).answer ≡ accept n) where
    fresh-state : (make_table policy buffer).state ≡ fresh_table policy (blocks buffer)
    unfolding make_table refusing
    fresh-state = rw (accepted-none n e)

    policy-passed : policy_fault policy ≡ none
    policy-passed = none_first _ _ (accepted-none n e)

    sized : Blocked 128 buffer
    unfolding table_length_fault
    sized = good-blocked 128 buffer (passes-unless _ _ (none-second (policy_fault policy) _ (accepted-none n e)))

    -- demand 3, of a table and answers that the calls leave
    as-register :
        (calls : List Call) (out table : List ℕ)
        → table ≡ after (call_step policy) (make_table policy buffer).state calls
        → out ≡ written (answers (call_step policy) (make_table policy buffer).state calls)
        → AsRegister policy (blocks buffer) calls out table
    unfolding Demand3
    as-register calls out table t o =
        record {
          answers-same = o ∙ rw fresh-state (ap written kept.answers-same);
          table_same = t ∙ rw fresh-state (last-table policy policy-passed (blocks buffer) sized.1 sized.2 calls);
          nobody = kept.nobody;
        }
      where
        kept : Kept policy (blocks buffer) calls
        kept = demand-3 policy policy-passed (blocks buffer) sized.1 sized.2 calls

  module _ (calls : List Call) (before : List ℕ) (reply : Answer) (fresh : List ℕ)
      (h : record { answer = reply; state = fresh } ≡ make_table policy buffer) where
    answer-is : reply ≡ (make_table policy buffer).answer
    answer-is = ap (λ (o : Outcome (List ℕ)). o.answer) h

    state-is : fresh ≡ (make_table policy buffer).state
    state-is = ap (λ (o : Outcome (List ℕ)). o.state) h

    pub ran-called :
        (n : ℕ) → reply ≡ accept n → (out table : List ℕ)
        → table ≡ after (call_step policy) fresh calls → out ≡ written (answers (call_step policy) fresh calls)
        → Ran policy buffer calls before reply out table
    ran-called n e out table t o =
        record {
          made = answer-is;
          refused = λ r x. absurd (let z : ◌≡◌ {A = ℕ} 0 1 = cc in omega arith);
          kept = λ m x. as-register m (sym answer-is ∙ x) calls out table (rw state-is at t) (rw state-is at o);
        }

    pub ran-refused : ((n : ℕ) → reply ≡ accept n → ⊥) → Ran policy buffer calls before reply before fresh
    ran-refused never =
        record {
          made = answer-is;
          refused = λ r x. (state-is ∙ untouched.making policy buffer r (sym answer-is ∙ x), refl);
          kept = λ n x. absurd (never n x);
        }
