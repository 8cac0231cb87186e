-- One request, and one closing: where the table's records are those that the register prescribes, the judge and the register say the same and leave the
-- same. This holds of every list of grants and closings, whether calls lead to it or not.
-- Assumes nothing.
use Prim.Native.Nat.{ℕ, ◌+◌, ◌<◌, ◌≤◌}
use mathlib.Core.Path.{◌≡◌, refl, sym, ap, ◌∙◌}
use mathlib.Core.Bool.{Bool, true, false, cond, not, ◌&&◌, and-false, and-true}
use mathlib.Core.List.{List, [], ◌∷◌, ◌++◌, map}
use mathlib.Core.Option.{Option, none}
use native.Mathlib.Omega.{arith}
use lib.ListN.{length, length-append, length-map}
use Rattle.words.specs.Lists.{keep, non_empty, same_list}
use Rattle.words.specs.First.{◌or_else◌, unless}
use Rattle.word_laws.proofs.Every.{Every, every-all, every-weaken, every-forall, every-both, keep_same, map_same, every-keep, kept-passes}
use Rattle.word_laws.proofs.Keep.{keep_append, keep-keep, keep-map, keep-split, any_of-keep, non_empty-map, map-map, map-append}
use Rattle.word_laws.proofs.Bits.{bit-bits, bits-same, bits-some, any_below-same, any_below-at, any_below-both, any_below-and}
use Rattle.word_laws.proofs.First.{first-same}
use Rattle.format.specs.Answer.{grant, Refusal, refusal}
use Rattle.format.specs.Request.{Request, request_fault}
use Rattle.format.specs.Context.{begins}
use Rattle.format.specs.Fits.{place, same_place}
use Rattle.format.specs.Policy.{Policy}
use Rattle.format.specs.Table.{Record, marked, has_mark}
use Rattle.judge.specs.Verdict.{judges, failing, permitted, verdict}
use Rattle.judge.specs.NewTable.{stands_in, open_in, past_in, ends, gives, record_of, cleared, sweep, new_table, grant_of, table_after, judge_fault}
use Rattle.register.specs.Run.{Event, was_granted, was_closed, Entry, entries_of}
use Rattle.judge.specs.Close.{closed, closed_out}
use Rattle.register.specs.Register.{run_of, open_run, past_run, lies, lies_in_some, held_of, removed_of, recorded_of, register_fault}
use Rattle.register.specs.Image.{record_for, records_for}
use Rattle.demand3.proofs.Run.{next, entries-snoc, entries-closed, entries-before}
use Rattle.demand3.proofs.Lies.{lies-old, lies-new, lies-closed, stands, run_lies}

module _ (p : Policy) (l : List Event) where
  -- a record of the image is marked for the rules in whose runs the entry lies
  pub marked-for : (i : ℕ) (x : Entry) → i < p.rules → marked i (record_for p l x) ≡ lies p l i x
  unfolding record_for
  marked-for i x h = bit-bits p.rules (λ j. lies p l j x) i h

  pub has-mark : (x : Entry) → has_mark (record_for p l x) ≡ lies_in_some p l x
  unfolding record_for lies_in_some
  has-mark x = bits-some p.rules (λ i. lies p l i x)

  -- the image has a record for each entry that is held
  pub records-held : length (records_for p l) ≡ held_of p l
  unfolding records_for held_of
  records-held = length-map (keep (lies_in_some p l) (entries_of l)) (record_for p l)

  -- the records that the image has in the request's run place are the run
  pub past_same : (q : Request) (i : ℕ) → i < p.rules → past_in p (records_for p l) q i ≡ past_run p l q i
  unfolding past_in records_for record_for past_run stands_in stands same_place lies_in_some
  past_same q i h =
      rw (keep-map (record_for p l) (stands_in p q i) (keep (lies_in_some p l) (entries_of l)), keep-keep (lies_in_some p l) (λ x. stands_in p q i (record_for p l x)) (entries_of l), map-map)
      (ap (map (λ x. x.request))
      (keep_same (λ x. lies_in_some p l x && stands_in p q i (record_for p l x)) (stands p i l (place (p.rule i) q)) (every-all (λ x. lies_in_some p l x && stands_in p q i (record_for p l x) ≡ stands p i l (place (p.rule i) q) x) each (entries_of l))
      ∙ run_lies p i (place (p.rule i) q) l))
    where
      each : (x : Entry) → lies_in_some p l x && stands_in p q i (record_for p l x) ≡ stands p i l (place (p.rule i) q) x
      each x = rw (marked-for i x h) (go (lies p l i x) refl (same_list (place (p.rule i) q) (place (p.rule i) x.request)))
        where
          go : (a : Bool) → lies p l i x ≡ a → (b : Bool) → lies_in_some p l x && (a && b) ≡ a && b
          go true e b = rw (any_below-at p.rules (λ j. lies p l j x) i h e)
          go false e b = and-false (lies_in_some p l x)

  pub open-same : (q : Request) (i : ℕ) → i < p.rules → open_in p (records_for p l) q i ≡ open_run p l q i
  unfolding open_in open_run past_in past_run
  open-same q i h =
      any_of-keep (stands_in p q i) (λ r. r.request) (records_for p l)
      ∙ ap non_empty (past_same q i h)
      ∙ non_empty-map (λ x. x.request) (run_of p l i (place (p.rule i) q))

  -- steps 1 to 3
  pub verdict-same : (q : Request) → verdict p q (open_in p (records_for p l) q) (past_in p (records_for p l) q) ≡ verdict p q (open_run p l q) (past_run p l q)
  unfolding verdict
  verdict-same q =
      ap (λ (o : Option Refusal). unless (permitted p q) (refusal 31 0 0) or_else o)
      (first-same _ _ 0 p.rules each)
    where
      each :
          (i : ℕ) → 0 ≤ i → i < 0 + p.rules
          → cond (judges (p.rule i) q (open_in p (records_for p l) q i)) (failing i (p.rule i) q (past_in p (records_for p l) q i)) none
          ≡ cond (judges (p.rule i) q (open_run p l q i)) (failing i (p.rule i) q (past_run p l q i)) none
      each i a b = let h : i < p.rules = omega arith in rw (open-same q i h, past_same q i h)

-- step 4, for whatever says which run places are open, as long as it says it of the rules alike
module _ (p : Policy) (l : List Event) (q : Request) where
  after : List Event
  after = l ++ (was_granted q ∷ [])

  opened : ℕ → Bool
  opened = open_in p (records_for p l) q

  ends_same : (i : ℕ) → i < p.rules → ends p q opened i ≡ ends p q (open_run p l q) i
  unfolding ends opened
  ends_same i h = rw (open-same p l q i h)

  gives_same : (i : ℕ) → i < p.rules → gives p q opened i ≡ gives p q (open_run p l q) i
  unfolding gives opened
  gives_same i h = rw (open-same p l q i h)

  -- a record of before, cleared, is the record that the register prescribes afterwards
  cleared-old : (x : Entry) → x.at < length l → cleared p q opened (record_for p l x) ≡ record_for p after x
  unfolding cleared record_for after
  cleared-old x h = ap (λ (m : ℕ). record { request = x.request; marks = m }) (bits-same p.rules _ _ each)
    where
      each :
          (i : ℕ) → i < p.rules
          → marked i (record_for p l x) && not (ends p q opened i && same_place (p.rule i) q x.request)
          ≡ lies p (l ++ (was_granted q ∷ [])) i x
      each i k = rw (marked-for p l i x k, ends_same i k) (sym (lies-old p i l q x h))

  record-new : record_of p q opened ≡ record_for p after (next l q)
  unfolding record_of record_for after
  record-new = ap (λ (m : ℕ). record { request = q; marks = m }) (bits-same p.rules _ _ (λ i h. gives_same i h ∙ sym (lies-new p i l q)))

  -- what still lies in a run did so before
  lies-shrink : (x : Entry) → x.at < length l → lies_in_some p l x && lies_in_some p after x ≡ lies_in_some p after x
  unfolding lies_in_some after
  lies-shrink x h =
      rw (any_below-same p.rules (λ i. lies p (l ++ (was_granted q ∷ [])) i x) (λ i. lies p l i x && not (ends p q (open_run p l q) i && same_place (p.rule i) q x.request)) (λ i k. lies-old p i l q x h))
      (any_below-both p.rules (λ i. lies p l i x) (λ i. not (ends p q (open_run p l q) i && same_place (p.rule i) q x.request)))

  -- the records of before, cleared, by any test of what is left
  cleared-kept :
      (t : Record → Bool)
      → keep t (map (cleared p q opened) (records_for p l))
      ≡ map (record_for p after) (keep (λ x. lies_in_some p l x && t (record_for p after x)) (entries_of l))
  unfolding records_for
  cleared-kept t =
      rw (map-map (record_for p l) (cleared p q opened) (keep (lies_in_some p l) (entries_of l)), keep-map (λ x. cleared p q opened (record_for p l x)) t (keep (lies_in_some p l) (entries_of l)), keep-keep (lies_in_some p l) (λ x. t (cleared p q opened (record_for p l x))) (entries_of l))
      (ap (map (λ x. cleared p q opened (record_for p l x)))
      (keep_same _ _ (every-weaken {P = λ x. x.at < length l} {Q = λ x. lies_in_some p l x && t (cleared p q opened (record_for p l x)) ≡ lies_in_some p l x && t (record_for p after x)} (λ x h. rw (cleared-old x h)) (entries-before l)))
      ∙ map_same (λ x. cleared p q opened (record_for p l x)) (record_for p after)
      (every-keep _ (λ x. lies_in_some p l x && t (record_for p after x)) (every-weaken {P = λ x. x.at < length l} {Q = λ x. cleared p q opened (record_for p l x) ≡ record_for p after x} cleared-old (entries-before l))))

  -- the first part of the new table, and the second
  swept-old : sweep (map (cleared p q opened) (records_for p l)) ≡ map (record_for p after) (keep (lies_in_some p after) (entries_of l))
  unfolding sweep
  swept-old =
      cleared-kept has_mark
      ∙ ap (map (record_for p after))
      (keep_same _ _ (every-weaken {P = λ x. x.at < length l} {Q = λ x. lies_in_some p l x && has_mark (record_for p after x) ≡ lies_in_some p after x} (λ x h. rw (has-mark p after x) (lies-shrink x h)) (entries-before l)))

  swept-new : sweep (record_of p q opened ∷ []) ≡ map (record_for p after) (keep (lies_in_some p after) (next l q ∷ []))
  unfolding sweep keep
  swept-new = rw (record-new, has-mark p after (next l q)) (go (lies_in_some p after (next l q)))
    where
      go : (b : Bool) → cond b (record_for p after (next l q) ∷ []) [] ≡ map (record_for p after) (cond b (next l q ∷ []) [])
      go true = refl
      go false = refl

  -- step 4: the new table is the one that the register prescribes
  pub table_same : table_after p (records_for p l) q ≡ records_for p (l ++ (was_granted q ∷ []))
  unfolding table_after new_table records_for after opened
  table_same =
      rw (entries-snoc l q, keep_append (lies_in_some p after) (entries_of l) (next l q ∷ []), map-append)
      (cc (swept-old, swept-new))

  -- held
  pub held_same : length (table_after p (records_for p l) q) ≡ held_of p (l ++ (was_granted q ∷ []))
  held_same = ap length table_same ∙ records-held p (l ++ (was_granted q ∷ []))

  -- recorded and removed
  recorded-same : length (sweep (record_of p q opened ∷ [])) ≡ recorded_of p l q
  unfolding recorded_of keep after
  recorded-same = rw swept-new (go (lies_in_some p after (next l q)))
    where
      go : (b : Bool) → length (map (record_for p after) (cond b (next l q ∷ []) [])) ≡ cond b 1 0
      go true = refl
      go false = refl

  removed-same : length (keep (λ r. not (has_mark r)) (map (cleared p q opened) (records_for p l))) ≡ removed_of p l (l ++ (was_granted q ∷ []))
  unfolding removed_of after
  removed-same =
      rw (cleared-kept (λ r. not (has_mark r)), length-map)
      (ap length (keep_same _ _ (every-all (λ x. lies_in_some p l x && not (has_mark (record_for p after x)) ≡ lies_in_some p l x && not (lies_in_some p after x)) (λ x. rw (has-mark p after x)) (entries_of l))))

  -- the three numbers of a grant
  pub grant-same :
      grant_of p q (open_in p (records_for p l) q) (records_for p l)
      ≡ grant (recorded_of p l q) (removed_of p l (l ++ (was_granted q ∷ []))) (held_of p (l ++ (was_granted q ∷ [])))
  unfolding grant_of opened table_after
  grant-same = rw (recorded-same, removed-same, held_same)

  -- all that the judge and the register can refuse
  pub fault-same : (room : ℕ) → register_fault p room l q ≡ request_fault q or_else judge_fault p room (records_for p l) q
  unfolding register_fault judge_fault
  fault-same room = rw (verdict-same p l q, held_same)

  -- ---- a grant's numbers balance

  -- those that lay in a run still do, or are removed
  stay-or-go : length (keep (lies_in_some p after) (entries_of l)) + removed_of p l after ≡ held_of p l
  unfolding held_of removed_of
  stay-or-go =
      rw (← still, ← keep-keep (lies_in_some p l) (λ x. not (lies_in_some p after x)) (entries_of l))
      (keep-split (lies_in_some p after) (keep (lies_in_some p l) (entries_of l)))
    where
      still : keep (lies_in_some p after) (keep (lies_in_some p l) (entries_of l)) ≡ keep (lies_in_some p after) (entries_of l)
      still =
          keep-keep (lies_in_some p l) (lies_in_some p after) (entries_of l)
          ∙ keep_same _ _ (every-weaken {P = λ x. x.at < length l} {Q = λ x. lies_in_some p l x && lies_in_some p after x ≡ lies_in_some p after x} lies-shrink (entries-before l))

  -- held now are those that stay, and the new one if it is recorded
  held-now : held_of p after ≡ length (keep (lies_in_some p after) (entries_of l)) + recorded_of p l q
  unfolding held_of recorded_of keep after
  held-now =
      rw (entries-snoc l q, keep_append (lies_in_some p after) (entries_of l) (next l q ∷ []), length-append)
      (ap (λ (n : ℕ). length (keep (lies_in_some p after) (entries_of l)) + n) (go (lies_in_some p after (next l q))))
    where
      go : (b : Bool) → length (cond b (next l q ∷ []) []) ≡ cond b 1 0
      go true = refl
      go false = refl

  pub balance : held_of p l + recorded_of p l q ≡ removed_of p l (l ++ (was_granted q ∷ [])) + held_of p (l ++ (was_granted q ∷ []))
  unfolding after
  balance = omega (arith, stay-or-go, held-now)

-- ---- one closing

module _ (p : Policy) (l : List Event) (c : List ℕ) where
  shut : List Event
  shut = l ++ (was_closed c ∷ [])

  stays : Entry → Bool
  stays x = not (begins c x.request)

  -- an entry lies in the runs in which it lay, and in none if it is named
  still-lies : Every (λ x. (i : ℕ) → lies p shut i x ≡ lies p l i x && stays x) (entries_of l)
  unfolding shut stays
  still-lies = every-forall (λ i x. lies p shut i x ≡ lies p l i x && stays x) (entries_of l) (λ i. lies-closed p i l c)

  still-in-some : Every (λ x. lies_in_some p shut x ≡ lies_in_some p l x && stays x) (entries_of l)
  unfolding lies_in_some
  still-in-some =
      every-weaken {P = λ x. (i : ℕ) → lies p shut i x ≡ lies p l i x && stays x} {Q = λ x. lies_in_some p shut x ≡ lies_in_some p l x && stays x}
      (λ x h. any_below-same p.rules _ (λ i. lies p l i x && stays x) (λ i k. h i) ∙ any_below-and p.rules (λ i. lies p l i x) (stays x))
      still-lies

  -- the record of one that is not named is as it was
  record-kept : Every (λ x. stays x ≡ true → record_for p shut x ≡ record_for p l x) (entries_of l)
  unfolding record_for
  record-kept =
      every-weaken {P = λ x. (i : ℕ) → lies p shut i x ≡ lies p l i x && stays x} {Q = λ x. stays x ≡ true → record_for p shut x ≡ record_for p l x}
      (λ x h e. ap (λ (m : ℕ). record { request = x.request; marks = m }) (bits-same p.rules _ _ (λ i k. h i ∙ rw e (and-true (lies p l i x)))))
      still-lies

  -- the records that the closing leaves are those that the register prescribes
  pub closed_same : closed c (records_for p l) ≡ records_for p (l ++ (was_closed c ∷ []))
  unfolding closed records_for record_for shut stays
  closed_same =
      keep-map (record_for p l) (λ r. not (begins c r.request)) (keep (lies_in_some p l) (entries_of l))
      ∙ sym (map_same (record_for p shut) (record_for p l)
      (every-weaken {P = λ x. (stays x ≡ true → record_for p shut x ≡ record_for p l x) × (stays x ≡ true)} {Q = λ x. record_for p shut x ≡ record_for p l x}
      (λ x h. h.0 h.1)
      (every-both _ _ (every-keep _ stays (every-keep _ (lies_in_some p l) record-kept)) (kept-passes stays (keep (lies_in_some p l) (entries_of l))))))
      ∙ ap (map (record_for p shut))
      (keep-keep (lies_in_some p l) stays (entries_of l)
      ∙ sym (keep_same (lies_in_some p shut) (λ x. lies_in_some p l x && stays x) still-in-some)
      ∙ ap (keep (lies_in_some p shut)) (sym (entries-closed l c)))

  -- the number removed
  pub closed-out-same : closed_out c (records_for p l) ≡ removed_of p l (l ++ (was_closed c ∷ []))
  unfolding closed_out removed_of records_for record_for shut stays
  closed-out-same =
      rw (keep-map (record_for p l) (λ r. begins c r.request) (keep (lies_in_some p l) (entries_of l)), length-map, keep-keep (lies_in_some p l) (λ x. begins c x.request) (entries_of l))
      (ap length (keep_same _ _ (every-weaken {P = λ x. lies_in_some p shut x ≡ lies_in_some p l x && stays x} {Q = λ x. lies_in_some p l x && begins c x.request ≡ lies_in_some p l x && not (lies_in_some p shut x)} gone still-in-some)))
    where
      gone : (x : Entry) → lies_in_some p shut x ≡ lies_in_some p l x && stays x → lies_in_some p l x && begins c x.request ≡ lies_in_some p l x && not (lies_in_some p shut x)
      gone x h = rw h (go (lies_in_some p l x) (begins c x.request))
        where
          go : (a b : Bool) → a && b ≡ a && not (a && not b)
          go false b = refl
          go true true = refl
          go true false = refl

  -- what was held is removed or still held
  pub balance-closed : held_of p l ≡ removed_of p l (l ++ (was_closed c ∷ [])) + held_of p (l ++ (was_closed c ∷ []))
  unfolding closed closed_out
  balance-closed =
      rw (← closed-out-same, ← records-held p (l ++ (was_closed c ∷ [])), ← records-held p l, ← closed_same)
      (sym (keep-split (λ r. begins c r.request) (records_for p l)))
