-- What follows from demand 3: crates/register/specs/Consequences.antt has the claims.
-- Assumes nothing.
use Prim.Native.Nat.{ℕ, ◌+◌, ◌-◌}
use mathlib.Core.Path.{◌≡◌, refl}
use mathlib.Core.List.{List, [], ◌∷◌, ◌++◌}
use mathlib.Core.Option.{Option, none, some}
use native.Mathlib.Omega.{arith}
use Rattle.format.specs.Answer.{Answer, accept, grant, refuse, Refusal, Outcome, refusing}
use Rattle.format.specs.Layout.{capacity}
use Rattle.word_laws.proofs.First.{none-second}
use Rattle.format.specs.Request.{request_fault}
use Rattle.format.specs.Context.{context_fault}
use Rattle.format.specs.Policy.{Policy, policy_fault, policy_of}
use Rattle.format.specs.Block.{blocks}
use Rattle.format.specs.Calls.{make_table}
use Rattle.words.specs.First.{◌or_else◌}
use Rattle.format.specs.Table.{table_length_fault, table_fault, records_of, fresh_table}
use Rattle.judge.specs.NewTable.{judge, grant_of, judge_fault}
use Rattle.judge.specs.Decide.{decide, decide_fault}
use Rattle.judge.specs.Close.{close, close_fault}
use Rattle.words.specs.Lists.{keep}
use Rattle.register.specs.Run.{Event, was_granted, was_closed, entries_of, numbered}
use Rattle.register.specs.Register.{held_of, removed_of, recorded_of, register_fault, granted, register_step, shut, register_close}
use Rattle.register.specs.Calls.{Call, deciding, closing, call_step, register_call}
use Rattle.register.specs.Demand3.{Demand3, answers, after}
use Rattle.register.specs.Consequences.{recorded_sum, removed_sum, last_held_from, last_held, Balanced, Passes, Untouched}
use Rattle.demand3.proofs.Step.{records-held, balance, balance-closed}
use Rattle.demand3.proofs.Demand3.{demand-3, last-table, fine-last, image-passes, image-records}

-- an outcome that is refused where a check applies, and answers otherwise with no refusal, leaves the state as it was
refused-state :
    {S : Type 0} (o : Option Refusal) (s : S) (left : Outcome S) (r : Refusal)
    → (o ≡ none → left.answer ≡ refuse r → ⊥) → (refusing o s left).answer ≡ refuse r → (refusing o s left).state ≡ s
unfolding refusing
refused-state none s left r never h = absurd (never refl h)
refused-state (some x) s left r never h = refl

-- a judgement that no check refuses is a grant, and a closing and a table that is made are accepted
pub untouched : Untouched
unfolding decide decide_fault judge grant_of close make_table refusing
untouched =
    record {
      deciding = λ policy table request r.
          refused-state (decide_fault policy table request) table _ r
          (λ e h. absurd (let g = rw (clear policy table request e) at h in let z : ◌≡◌ {A = ℕ} 0 1 = cc g in omega arith));
      closing = λ policy table context r.
          refused-state (close_fault policy table context) table _ r (λ e h. let z : ◌≡◌ {A = ℕ} 0 1 = cc h in omega arith);
      making = λ policy buffer r.
          refused-state (policy_fault policy or_else table_length_fault buffer) buffer _ r (λ e h. let z : ◌≡◌ {A = ℕ} 0 1 = cc h in omega arith);
    }
  where
    clear :
        (policy table request : List ℕ) → decide_fault policy table request ≡ none
        → judge_fault (policy_of policy) (capacity (blocks table)) (records_of table) request ≡ none
    clear policy table request e = none-second (request_fault request) _ (none-second (table_fault policy table) _ (none-second (policy_fault policy) _ e))

-- ---- what the answers add up to

-- what calls tell and what the register holds before and after them: they balance, and the held that they tell is what the register then holds
Balances : ℕ → List Answer → ℕ → Type 0
Balances before told now = (before + recorded_sum told ≡ removed_sum told + now) × (last_held_from before told ≡ now)

-- one grant more in front, and one closing more
balances-granted :
    (before recorded removed held now : ℕ) (told : List Answer)
    → before + recorded ≡ removed + held → Balances held told now → Balances before (grant recorded removed held ∷ told) now
unfolding Balances recorded_sum removed_sum last_held_from
balances-granted before recorded removed held now told e h = (omega (arith, e, h.0), h.1)

balances-closed :
    (before removed held now : ℕ) (told : List Answer) → before ≡ removed + held → Balances held told now → Balances before (accept removed ∷ told) now
unfolding Balances recorded_sum removed_sum last_held_from
balances-closed before removed held now told e h = let z : before - removed ≡ held = omega (arith, e) in (omega (arith, e, h.0), rw z h.1)

module _ (p : Policy) (room : ℕ) where
  -- the calls from an outcome on, counted from what was held before it
  From : List Call → ℕ → Outcome (List Event) → Type 0
  From cs before out =
      Balances before (out.answer ∷ answers (register_call p room) out.state cs) (held_of p (after (register_call p room) out.state cs))

  All : List Call → List Event → Type 0
  All cs l = Balances (held_of p l) (answers (register_call p room) l cs) (held_of p (after (register_call p room) l cs))

  -- a refusal changes nothing
  unless-refused :
      (cs : List Call) (l : List Event) (o : Option Refusal) (out : Outcome (List Event)) → All cs l → From cs (held_of p l) out
      → From cs (held_of p l) (refusing o l out)
  unfolding From All Balances recorded_sum removed_sum last_held_from refusing
  unless-refused cs l (some r) out rest this = rest
  unless-refused cs l none out rest this = this

  balanced-from : (calls : List Call) (l : List Event) → All calls l
  unfolding From All after answers Balances recorded_sum removed_sum last_held_from register_call register_step register_close granted shut
  balanced-from [] l = (omega arith, refl)
  balanced-from (deciding q ∷ cs) l =
      let l' = l ++ (was_granted q ∷ []) in
      unless-refused cs l (register_fault p room l q) (granted p l q) (balanced-from cs l)
      (balances-granted (held_of p l) (recorded_of p l q) (removed_of p l l') (held_of p l') (held_of p (after (register_call p room) l' cs))
      (answers (register_call p room) l' cs) (balance p l q) (balanced-from cs l'))
  balanced-from (closing c ∷ cs) l =
      let l' = l ++ (was_closed c ∷ []) in
      unless-refused cs l (context_fault c) (shut p l c) (balanced-from cs l)
      (balances-closed (held_of p l) (removed_of p l l') (held_of p l') (held_of p (after (register_call p room) l' cs))
      (answers (register_call p room) l' cs) (balance-closed p l c) (balanced-from cs l'))

nothing-held : (p : Policy) → held_of p [] ≡ 0
unfolding held_of entries_of numbered keep
nothing-held p = refl

pub passes : Passes
unfolding Passes
passes policy accepted b some_block few-blocks calls =
    rw (last-table policy accepted b some_block few-blocks calls)
    (image-passes policy accepted b some_block few-blocks _ (fine-last policy accepted b some_block few-blocks calls))

pub balanced : Balanced
unfolding Balanced Demand3 last_held Balances All
balanced policy accepted b some_block few-blocks calls =
    record {
      by-answers = rw same (omega (arith, sums.0, sums.1));
      by-table =
          rw (same, last-table policy accepted b some_block few-blocks calls, image-records policy accepted b some_block few-blocks _ (fine-last policy accepted b some_block few-blocks calls), records-held (policy_of policy) _) sums.1;
    }
  where
    step : List Event → Call → Outcome (List Event)
    step = register_call (policy_of policy) (capacity b)

    same : answers (call_step policy) (fresh_table policy b) calls ≡ answers step [] calls
    same = (demand-3 policy accepted b some_block few-blocks calls).answers-same

    sums : Balances 0 (answers step [] calls) (held_of (policy_of policy) (after step [] calls))
    sums = rw (nothing-held (policy_of policy)) at (balanced-from (policy_of policy) (capacity b) calls [])
