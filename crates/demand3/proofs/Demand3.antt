-- Demand 3, proved: crates/register/specs/Demand3.antt says in plain words what it claims.
-- The chain: on one request and on one closing judge and register agree (Step.antt) and nobody reaches m (Nobody.antt), for every list of grants and
-- closings; the image of good records passes the table's check and reads back (format's TableImage.antt), and the register's records are good
-- (GoodRecords.antt); so a call on the image of a list leaves the image of the next list (`decide-step`, `close-step`), and the claim follows by the laws
-- of calls one after another (Calls.antt).
-- Assumes nothing.
use Prim.Native.Nat.{ℕ, ◌≤◌}
use mathlib.Core.Path.{◌≡◌, refl, sym, ◌∙◌}
use mathlib.Core.List.{List, [], ◌∷◌, ◌++◌}
use mathlib.Core.Option.{Option, none, some}
use native.Mathlib.Omega.{arith}
use borrow.Author.Tests.{leb-true}
use lib.ListN.{length}
use Rattle.words.specs.Lists.{keep}
use Rattle.word_laws.proofs.Every.{empty, more as also, every_append}
use Rattle.word_laws.proofs.First.{none_first, none-second, passes-unless, none-or_else}
use Rattle.format.specs.Answer.{Refusal, Outcome, refusing}
use Rattle.format.specs.Layout.{capacity, table_blocks}
use Rattle.format.specs.Block.{blocks}
use Rattle.format.specs.Request.{request_fault}
use Rattle.format.specs.Context.{context_fault}
use Rattle.format.specs.Policy.{Policy, policy_fault, policy_of, stamp}
use Rattle.format.specs.Table.{Record, table_fault, table_image, records_of, fresh_table}
use Rattle.format_laws.proofs.TableImage.{image-blocks, reads-back, passes}
use Rattle.format_laws.proofs.AcceptedPolicy.{rules-most, m-two}
use Rattle.judge.specs.NewTable.{judge_fault, judge}
use Rattle.judge.specs.Decide.{decide_fault, decide}
use Rattle.judge.specs.Close.{close_fault, close}
use Rattle.register.specs.Run.{Event, was_granted, was_closed, entries_of, numbered}
use Rattle.register.specs.Register.{held_of, register_fault, granted, register_step, shut, register_close}
use Rattle.register.specs.Image.{records_for, register_image}
use Rattle.register.specs.Calls.{Call, deciding, closing, call_step, register_call}
use Rattle.register.specs.Demand3.{after, Kept, Demand3}
use Rattle.demand3.proofs.Calls.{answers-same, states-same, after_same, fine-after}
use Rattle.demand3.proofs.Run.{entries-nil, entries-snoc, entries-closed}
use Rattle.demand3.proofs.Step.{records-held, fault-same, grant-same, table_same, closed_same, closed-out-same, balance-closed}
use Rattle.demand3.proofs.GoodRecords.{AllGranted, records-good, records-whole}
use Rattle.demand3.proofs.Nobody.{Positive, nobody-ever}

module _ (policy : List ℕ) (accepted : policy_fault policy ≡ none) (b : ℕ) (some_block : 1 ≤ b) (few-blocks : b ≤ table_blocks) where
  abbrev p : Policy
  p = policy_of policy

  -- what calls keep of the register: granted requests have passed their check, and the records fit the table
  abbrev Fine : List Event → Type 0
  Fine l = AllGranted l × (length (records_for p l) ≤ capacity b)

  few : p.rules ≤ 32
  unfolding policy_of
  few = rules-most policy accepted

  positive : Positive p
  unfolding policy_of
  positive i h e k = omega (arith, m-two policy accepted i h e k)

  abbrev step : List Event → Call → Outcome (List Event)
  step = register_call p (capacity b)

  abbrev image : List Event → List ℕ
  image l = register_image policy b l

  -- a table that calls wrote passes the table's check, and reads back
  pub image-passes : (l : List Event) → Fine l → table_fault policy (image l) ≡ none
  unfolding register_image
  image-passes l f = passes policy b (records_for p l) some_block few-blocks (records-whole p few l f.0) f.1 (records-good p few l f.0)

  pub image-records : (l : List Event) → Fine l → records_of (image l) ≡ records_for p l
  unfolding register_image
  image-records l f = reads-back (stamp policy) b (records_for p l) few-blocks (records-whole p few l f.0) f.1

  image-size : (l : List Event) → Fine l → blocks (image l) ≡ b
  unfolding register_image
  image-size l f = image-blocks (stamp policy) b (records_for p l) (records-whole p few l f.0)

  -- the register's outcome, with the image that it prescribes for its state
  unfoldable pub imaged : Outcome (List Event) → Outcome (List ℕ)
  imaged o = record { answer = o.answer; state = image o.state }

  -- one request: `decide` on the image of a list says what the register says, and leaves the image of the register's next list
  pub decide-step : (l : List Event) → Fine l → (q : List ℕ) → decide policy (image l) q ≡ imaged (register_step p (capacity b) l q)
  unfolding decide decide_fault imaged register_step granted register_image refusing judge
  decide-step l f q =
      rw (accepted, image-passes l f, image-size l f, image-records l f, none-or_else, none-or_else, ← fault-same p l q (capacity b))
      (go (register_fault p (capacity b) l q) refl)
    where
      judged : Outcome (List Record)
      judged = judge p (capacity b) (records_for p l) q

      go :
          (o : Option Refusal) → register_fault p (capacity b) l q ≡ o
          → refusing o (image l) (record { answer = judged.answer; state = table_image (stamp policy) b judged.state })
          ≡ imaged (refusing o l (granted p l q))
      go (some r) e = refl
      go none e = rw (clear, grant-same p l q, table_same p l q)
        where
          clear : judge_fault p (capacity b) (records_for p l) q ≡ none
          clear = none-second (request_fault q) _ (sym (fault-same p l q (capacity b)) ∙ e)

  -- one closing: the same of `close`
  pub close-step : (l : List Event) → Fine l → (c : List ℕ) → close policy (image l) c ≡ imaged (register_close p l c)
  unfolding close close_fault imaged register_close shut register_image refusing
  close-step l f c =
      rw (accepted, image-passes l f, image-size l f, image-records l f, none-or_else, none-or_else, closed_same p l c, closed-out-same p l c) (go (context_fault c))
    where
      go : (o : Option Refusal) → refusing o (image l) (imaged (shut p l c)) ≡ imaged (refusing o l (shut p l c))
      go (some r) = refl
      go none = refl

  call-step-same : (l : List Event) → Fine l → (c : Call) → call_step policy (image l) c ≡ imaged (step l c)
  unfolding call_step register_call
  call-step-same l f (deciding q) = decide-step l f q
  call-step-same l f (closing c) = close-step l f c

  -- what calls keep, one request further
  fine-decided : (l : List Event) → Fine l → (q : List ℕ) → Fine (register_step p (capacity b) l q).state
  unfolding register_step granted refusing register_fault
  fine-decided l f q = go (register_fault p (capacity b) l q) refl
    where
      go : (o : Option Refusal) → register_fault p (capacity b) l q ≡ o → Fine (refusing o l (granted p l q)).state
      go (some r) e = f
      go none e = (rw (entries-snoc l q) (every_append f.0 (also (none_first _ _ e) empty)), fits)
        where
          held : held_of p (l ++ (was_granted q ∷ [])) ≤ capacity b
          held = leb-true (held_of p (l ++ (was_granted q ∷ []))) (capacity b) (passes-unless _ _ (none-second _ _ (none-second (request_fault q) _ e)))

          fits : length (records_for p (l ++ (was_granted q ∷ []))) ≤ capacity b
          fits = rw (records-held p (l ++ (was_granted q ∷ []))) held

  -- and one closing further
  fine-closed : (l : List Event) → Fine l → (c : List ℕ) → Fine (register_close p l c).state
  unfolding register_close shut refusing
  fine-closed l f c = go (context_fault c)
    where
      fits : length (records_for p (l ++ (was_closed c ∷ []))) ≤ capacity b
      fits = omega (arith, f.1, balance-closed p l c, records-held p l, records-held p (l ++ (was_closed c ∷ [])))

      go : (o : Option Refusal) → Fine (refusing o l (shut p l c)).state
      go (some r) = f
      go none = (rw (entries-closed l c) f.0, fits)

  fine-step : (l : List Event) → Fine l → (c : Call) → Fine (step l c).state
  unfolding register_call
  fine-step l f (deciding q) = fine-decided l f q
  fine-step l f (closing c) = fine-closed l f c

  -- ---- all calls

  -- the start: nothing granted or closed, no record, the fresh table
  no-records : records_for p [] ≡ []
  unfolding records_for entries_of numbered keep
  no-records = refl

  pub fresh-image : image [] ≡ fresh_table policy b
  unfolding register_image fresh_table
  fresh-image = rw no-records

  pub fine-start : Fine []
  fine-start = (rw entries-nil empty, rw no-records (omega arith))

  -- the table that the calls leave is the image of the register that they leave, and the register is fine
  pub last-table : (calls : List Call) → after (call_step policy) (fresh_table policy b) calls ≡ image (after step [] calls)
  unfolding imaged
  last-table calls = rw (← fresh-image) (after_same (call_step policy) step image Fine call-step-same fine-step calls [] fine-start)

  pub fine-last : (calls : List Call) → Fine (after step [] calls)
  unfolding imaged
  fine-last calls = fine-after (call_step policy) step image Fine call-step-same fine-step calls [] fine-start

  kept : (calls : List Call) → Kept policy b calls
  unfolding imaged
  kept calls =
      record {
        answers-same = rw (← fresh-image) (answers-same (call_step policy) step image Fine call-step-same fine-step calls [] fine-start);
        tables-same = rw (← fresh-image) (states-same (call_step policy) step image Fine call-step-same fine-step calls [] fine-start);
        nobody = nobody-ever p (capacity b) positive calls;
      }

pub demand-3 : Demand3
unfolding Demand3
demand-3 = kept
