-- Document 01's own words: on every list without a closing a run is the one that they give (`same_runs`), and its demand 3, over decisions alone, follows
-- from demand 3 over decisions and closings (`base-demand-3`). crates/register/specs/Base.antt says in plain words what is claimed.
-- Assumes nothing.
use Prim.Native.Nat.{ℕ}
use mathlib.Core.Path.{◌≡◌, refl, sym, ap, subst, ◌∙◌}
use mathlib.Core.Bool.{Bool, true, false, cond, not, ◌||◌, or-false, or-true}
use mathlib.Core.List.{List, [], ◌∷◌, ◌++◌, map, append-nil}
use mathlib.Core.Option.{Option, none, some}
use Rattle.words.specs.Lists.{keep, any_of, non_empty}
use Rattle.word_laws.proofs.Keep.{snoc-induction, keep_append, any_of-append, map-append}
use Rattle.format.specs.Answer.{Answer, accept, grant, refuse, Refusal, refusing}
use Rattle.format.specs.Layout.{capacity}
use Rattle.format.specs.Request.{Request}
use Rattle.format.specs.Rule.{Rule, is_set}
use Rattle.format.specs.Policy.{Policy, policy_of}
use Rattle.judge.specs.Verdict.{is_first, is_last}
use Rattle.register.specs.Run.{Event, was_granted, Entry, entries_of, of_place, joins, after_grant, run}
use Rattle.register.specs.Register.{run_of, register_fault, granted, register_step}
use Rattle.register.specs.Calls.{deciding, call_step, register_call}
use Rattle.register.specs.Demand3.{AtGrant, AtEvery, StepCounted, NobodyEver, Kept, Demand3}
use Rattle.register.specs.Base.{after_latest, from_earliest, run_in_words, all_granted, SameRuns, InWords, BaseDemand3}
use Rattle.demand3.proofs.Calls.{answers-map, states-map, every_map}
use Rattle.demand3.proofs.Run.{next, entries-nil, entries-snoc, run-nil, run-snoc}
use Rattle.demand3.proofs.Demand3.{demand-3}

-- ---- the two cuts

module _ {A : Type 0} (t : A → Bool) (x : A) where
  one : any_of t (x ∷ []) ≡ t x
  unfolding any_of
  one = go (t x)
    where
      go : (b : Bool) → b || false ≡ b
      go true = refl
      go false = refl

  latest-hit : (xs : List A) → t x ≡ true → after_latest t (xs ++ (x ∷ [])) ≡ []
  unfolding after_latest any_of
  latest-hit [] e = rw e
  latest-hit (y ∷ xs) e = rw (any_of-append t xs (x ∷ []), one, e, or-true) (latest-hit xs e)

  latest-miss : (xs : List A) → t x ≡ false → after_latest t (xs ++ (x ∷ [])) ≡ after_latest t xs ++ (x ∷ [])
  unfolding after_latest any_of
  latest-miss [] e = rw e
  latest-miss (y ∷ xs) e =
      rw (any_of-append t xs (x ∷ []), one, e, or-false, latest-miss xs e) (go (any_of t xs) (t y))
    where
      go :
          (a b : Bool)
          → cond a (after_latest t xs ++ (x ∷ [])) (cond b (xs ++ (x ∷ [])) (y ∷ (xs ++ (x ∷ []))))
          ≡ cond a (after_latest t xs) (cond b xs (y ∷ xs)) ++ (x ∷ [])
      go true b = refl
      go false true = refl
      go false false = refl

  earliest-snoc :
      (xs : List A)
      → from_earliest t (xs ++ (x ∷ []))
      ≡ cond (t x || non_empty (from_earliest t xs)) (from_earliest t xs ++ (x ∷ [])) (from_earliest t xs)
  unfolding from_earliest non_empty
  earliest-snoc [] = go (t x)
    where
      go : (b : Bool) → cond b (x ∷ []) [] ≡ cond (b || false) (x ∷ []) []
      go true = refl
      go false = refl
  earliest-snoc (y ∷ xs) = go (earliest-snoc xs) (t y) (t x) refl
    where
      go :
          from_earliest t (xs ++ (x ∷ []))
          ≡ cond (t x || non_empty (from_earliest t xs)) (from_earliest t xs ++ (x ∷ [])) (from_earliest t xs)
          → (b c : Bool) → c ≡ t x
          → cond b (y ∷ (xs ++ (x ∷ []))) (from_earliest t (xs ++ (x ∷ [])))
          ≡ cond (c || non_empty (cond b (y ∷ xs) (from_earliest t xs)))
          (cond b (y ∷ xs) (from_earliest t xs) ++ (x ∷ [])) (cond b (y ∷ xs) (from_earliest t xs))
      go h true true e = refl
      go h true false e = refl
      go h false c e = rw (e, h)

-- ---- both cuts, one after the other

module _ {A : Type 0} (last start : A → Bool) (has_first : Bool) where
  abbrev cut : List A → List A
  cut xs = cond has_first (from_earliest start (after_latest last xs)) (after_latest last xs)

cut-snoc :
    {A : Type 0} (last start : A → Bool) (has_first : Bool) (xs : List A) (x : A)
    → cut last start has_first (xs ++ (x ∷ []))
    ≡ cond (last x) []
    (cond (not has_first || start x || non_empty (cut last start has_first xs))
    (cut last start has_first xs ++ (x ∷ [])) (cut last start has_first xs))
unfolding from_earliest
cut-snoc last start b xs x = go (last x) refl b
  where
    go :
        (l : Bool) → last x ≡ l → (c : Bool)
        → cut last start c (xs ++ (x ∷ []))
        ≡ cond l [] (cond (not c || start x || non_empty (cut last start c xs)) (cut last start c xs ++ (x ∷ [])) (cut last start c xs))
    go true e true = rw (latest-hit last x xs e)
    go true e false = latest-hit last x xs e
    go false e true = rw (latest-miss last x xs e) (earliest-snoc start x (after_latest last xs))
    go false e false = latest-miss last x xs e

-- ---- a run in document 01's words

words-nil : (r : Rule) (key : List ℕ) → run_in_words r key [] ≡ []
unfolding run_in_words keep after_latest from_earliest
words-nil r key = go (is_set r.first_step)
  where
    go : (b : Bool) → cond b (from_earliest {A = Entry} (λ x. is_first r x.request) []) [] ≡ []
    go true = refl
    go false = refl

-- what one more grant does to it
words_snoc : (r : Rule) (key : List ℕ) (es : List Entry) (x : Entry) → run_in_words r key (es ++ (x ∷ [])) ≡ after_grant r key x (run_in_words r key es)
unfolding run_in_words keep after_grant joins
words_snoc r key es x =
    rw (keep_append (of_place r key) es (x ∷ [])) (go (of_place r key x))
  where
    last : Entry → Bool
    last y = is_last r y.request

    start : Entry → Bool
    start y = is_first r y.request

    so_far : List Entry
    so_far = cut last start (is_set r.first_step) (keep (of_place r key) es)

    go :
        (b : Bool)
        → cut last start (is_set r.first_step) (keep (of_place r key) es ++ cond b (x ∷ []) [])
        ≡ cond b (cond (last x) [] (cond (joins r x.request so_far) (so_far ++ (x ∷ [])) so_far)) so_far
    go true = cut-snoc last start (is_set r.first_step) (keep (of_place r key) es) x
    go false = rw append-nil

pub same_runs : SameRuns
unfolding SameRuns
same_runs r key =
    snoc-induction (λ qs. run r key (all_granted qs) ≡ run_in_words r key (entries_of (all_granted qs)))
    (rw (entries-nil, run-nil) (sym (words-nil r key)))
    more
  where
    more :
        (qs : List Request) (q : Request) → run r key (all_granted qs) ≡ run_in_words r key (entries_of (all_granted qs))
        → run r key (all_granted (qs ++ (q ∷ []))) ≡ run_in_words r key (entries_of (all_granted (qs ++ (q ∷ []))))
    more qs q ih =
        rw (map-append was_granted qs (q ∷ []), entries-snoc (all_granted qs) q, run-snoc r key (all_granted qs) (was_granted q))
        (ap (after_grant r key (next (all_granted qs) q)) ih ∙ sym (words_snoc r key (entries_of (all_granted qs)) (next (all_granted qs) q)))

-- ---- decisions alone

-- they leave a list without a closing, at every point
in-words-ever :
    (p : Policy) (room : ℕ) (requests : List (List ℕ)) (qs : List Request)
    → AtEvery (register_step p room) (InWords p) (λ l q. Unit {0}) (all_granted qs) requests
unfolding AtEvery AtGrant InWords SameRuns run_of register_step granted refusing
in-words-ever p room [] qs = λ i key. same_runs (p.rule i) key qs
in-words-ever p room (q ∷ rest) qs =
    ((λ i key. same_runs (p.rule i) key qs), nothing (register_step p room (all_granted qs) q).answer, go (λ qs'. in-words-ever p room rest qs') (register_fault p room (all_granted qs) q))
  where
    Later : List Event → Type 0
    Later l = AtEvery (register_step p room) (InWords p) (λ l' q'. Unit {0}) l rest

    nothing : (a : Answer) → AtGrant a (Unit {0})
    nothing (accept n) = tt
    nothing (grant recorded removed held) = tt
    nothing (refuse r) = tt

    go : ((qs' : List Request) → Later (all_granted qs')) → (f : Option Refusal) → Later (refusing f (all_granted qs) (granted p (all_granted qs) q)).state
    go later (some r) = later qs
    go later none = subst Later (map-append was_granted qs (q ∷ [])) (later (qs ++ (q ∷ [])))

pub base-demand-3 : BaseDemand3
unfolding BaseDemand3 Demand3 NobodyEver StepCounted call_step register_call
base-demand-3 policy accepted b some_block few-blocks requests =
    record {
      answers-same = sym (answers-map (call_step policy) deciding _ requests) ∙ k.answers-same ∙ answers-map (register_call p (capacity b)) deciding [] requests;
      tables-same =
          sym (states-map (call_step policy) deciding _ requests)
          ∙ k.tables-same
          ∙ ap (map _) (states-map (register_call p (capacity b)) deciding [] requests);
      nobody = every_map (register_call p (capacity b)) deciding _ _ [] requests k.nobody;
      in_words = in-words-ever p (capacity b) requests [];
    }
  where
    p : Policy
    p = policy_of policy

    k : Kept policy b (map deciding requests)
    k = demand-3 policy accepted b some_block few-blocks (map deciding requests)
