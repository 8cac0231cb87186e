-- Nobody reaches the forbidden number: a grant is given only where step 3 finds everyone below m, a run grows by granted requests alone, and a closing
-- only takes some out of it.
-- Assumes nothing.
use Prim.Native.Nat.{ℕ, ◌<◌}
use mathlib.Core.Path.{◌≡◌, refl, sym, ap, subst, ◌∙◌}
use mathlib.Core.Bool.{Bool, true, false, cond, not, ◌&&◌}
use mathlib.Core.List.{List, [], ◌∷◌, ◌++◌, map, append-nil}
use mathlib.Core.Option.{Option, none, some}
use native.Mathlib.Omega.{arith}
use borrow.Author.Tests.{eqb-true, not-true}
use Rattle.words.specs.Lists.{keep, same_list}
use Rattle.word_laws.proofs.Keep.{keep_append, keep-map, keep-swap, map-append}
use Rattle.word_laws.proofs.Same.{same-eq, same_refl}
use Rattle.word_laws.proofs.First.{none_first, none-second, passes-unless, none-at}
use Rattle.format.specs.Answer.{Refusal, refusing}
use Rattle.format.specs.Request.{Request, user, request_fault}
use Rattle.format.specs.Context.{context_fault, begins}
use Rattle.format.specs.Rule.{Rule, Exclusion}
use Rattle.format.specs.Fits.{fits, place}
use Rattle.format.specs.Policy.{Policy}
use Rattle.judge.specs.Tally.{same_user, reached, counted}
use Rattle.judge.specs.Verdict.{is_last, judges, failing, verdict}
use Rattle.register.specs.Run.{Event, was_granted, was_closed, Entry, of_place, joins, after_grant, after_closing}
use Rattle.register.specs.Register.{run_of, open_run, past_run, register_fault, granted, register_step, shut, register_close}
use Rattle.register.specs.Reached.{NobodyIn, standing, with_step, Nobody}
use Rattle.register.specs.Calls.{Call, deciding, closing, register_call}
use Rattle.register.specs.Demand3.{AtGrant, StepCounted, NobodyEver}
use Rattle.demand3.proofs.Calls.{at_every}
use Rattle.demand3.proofs.Counts.{none-reached, fewer-reached}
use Rattle.demand3.proofs.Run.{next, run-nil}
use Rattle.demand3.proofs.Lies.{run_of-snoc, run_of-closed}

-- ---- what a verdict without refusal says

-- every exclusion of a policy asks for at least one
abbrev pub Positive : Policy → Type 0
Positive p = (i : ℕ) → i < p.rules → (e : ℕ) → e < (p.rule i).exclusions → 0 < ((p.rule i).exclusion e).m

module _ (p : Policy) (l : List Event) (q : Request) where
  -- the request, counted with its user's past, leaves each exclusion of a judging rule below m
  passed :
      verdict p q (open_run p l q) (past_run p l q) ≡ none
      → (i : ℕ) → i < p.rules → judges (p.rule i) q (open_run p l q i) ≡ true
      → (e : ℕ) → e < (p.rule i).exclusions → reached ((p.rule i).exclusion e) (counted q (past_run p l q i)) ≡ false
  unfolding verdict failing
  passed v i h j e k =
      not-true _ (passes-unless _ _ (none-at _ 0 (p.rule i).exclusions e rule (omega arith) (omega arith)))
    where
      rows : ℕ → Option Refusal
      rows n = cond (judges (p.rule n) q (open_run p l q n)) (failing n (p.rule n) q (past_run p l q n)) none

      rule : failing i (p.rule i) q (past_run p l q i) ≡ none
      rule =
          let row : rows i ≡ none = none-at rows 0 p.rules i (none-second _ _ v) (omega arith) (omega arith) in
          rw j at row

  -- at a grant: the run before it, with the request added where the rule judges it
  at-grant : Nobody p (standing p l) → verdict p q (open_run p l q) (past_run p l q) ≡ none → Nobody p (with_step p l q)
  unfolding Nobody NobodyIn with_step keep same_user counted past_run standing
  at-grant before v i h e k key u =
      rw (keep_append (same_user u) (standing p l i key) _)
      (go (judges r q (open_run p l q i)) refl (same_list (place r q) key) refl)
    where
      r : Rule
      r = p.rule i

      x : Exclusion
      x = r.exclusion e

      still : reached x (keep (same_user u) (standing p l i key) ++ []) ≡ false
      still = rw append-nil (before i h e k key u)

      go :
          (a : Bool) → judges r q (open_run p l q i) ≡ a → (b : Bool) → same_list (place r q) key ≡ b
          → reached x (keep (same_user u) (standing p l i key) ++ keep (same_user u) (cond (a && b) (q ∷ []) [])) ≡ false
      go false t b s = still
      go true t false s = still
      go true t true s = own (same_user u q) refl
        where
          own : (c : Bool) → same_user u q ≡ c → reached x (keep (same_user u) (standing p l i key) ++ cond c (q ∷ []) []) ≡ false
          own false w = still
          own true w =
              subst (λ (z : ℕ). reached x (keep (same_user z) (standing p l i key) ++ (q ∷ [])) ≡ false) (eqb-true (user q) u w)
              (subst (λ (z : List ℕ). reached x (keep (same_user (user q)) (standing p l i z) ++ (q ∷ [])) ≡ false) (same-eq (place r q) key s)
              (passed v i h t e k))

  -- after a grant: a run is as it was, or ended, or has the request with those of before
  after-grant : Positive p → Nobody p (standing p l) → Nobody p (with_step p l q) → Nobody p (standing p (l ++ (was_granted q ∷ [])))
  unfolding Nobody NobodyIn with_step standing keep judges open_run of_place after_grant joins
  after-grant pos before at i h e k key u =
      rw (run_of-snoc p i l q key) (go (fits r q) refl (same_list (place r q) key) refl (is_last r q) (joins r q s) refl)
    where
      r : Rule
      r = p.rule i

      x : Exclusion
      x = r.exclusion e

      s : List Entry
      s = run_of p l i key

      below : (es : List Entry) → Type 0
      below es = reached x (keep (same_user u) (map (λ y. y.request) es)) ≡ false

      go :
          (a : Bool) → fits r q ≡ a → (b : Bool) → same_list (place r q) key ≡ b → (c d : Bool) → joins r q s ≡ d
          → below (cond (a && b) (cond c [] (cond d (s ++ (next l q ∷ [])) s)) s)
      go false ta b tb c d td = before i h e k key u
      go true ta false tb c d td = before i h e k key u
      go true ta true tb true d td = none-reached x (pos i h e k)
      go true ta true tb false false td = before i h e k key u
      go true ta true tb false true td = rw (map-append (λ y. y.request) s (next l q ∷ [])) (rw added at (at i h e k key u))
        where
          added : (fits r q && joins r q (run_of p l i (place r q))) && same_list (place r q) key ≡ true
          added = rw (same-eq (place r q) key tb, ta, td, same_refl key)

-- ---- after a closing

after-closing : (p : Policy) (l : List Event) (c : List ℕ) → Nobody p (standing p l) → Nobody p (standing p (l ++ (was_closed c ∷ [])))
unfolding Nobody NobodyIn standing after_closing
after-closing p l c before i h e k key u =
    ap (λ (qs : List Request). reached ((p.rule i).exclusion e) (keep (same_user u) qs)) less
    ∙ ap (reached ((p.rule i).exclusion e)) (keep-swap (λ q. not (begins c q)) (same_user u) (standing p l i key))
    ∙ fewer-reached ((p.rule i).exclusion e) (λ q. not (begins c q)) (keep (same_user u) (standing p l i key)) (before i h e k key u)
  where
    less : standing p (l ++ (was_closed c ∷ [])) i key ≡ keep (λ q. not (begins c q)) (standing p l i key)
    less =
        ap (map (λ (x : Entry). x.request)) (run_of-closed p i l c key)
        ∙ sym (keep-map (λ (x : Entry). x.request) (λ q. not (begins c q)) (run_of p l i key))

-- ---- at every point

at-start : (p : Policy) → Positive p → Nobody p (standing p [])
unfolding Nobody NobodyIn standing run_of keep
at-start p pos i h e k key u = rw run-nil (none-reached ((p.rule i).exclusion e) (pos i h e k))

-- one request
keeps-deciding :
    (p : Policy) (room : ℕ) → Positive p → (l : List Event) (q : List ℕ) → Nobody p (standing p l)
    → AtGrant (register_step p room l q).answer (Nobody p (with_step p l q)) × Nobody p (standing p (register_step p room l q).state)
unfolding AtGrant register_step granted refusing register_fault
keeps-deciding p room pos l q now = go (register_fault p room l q) refl
  where
    go :
        (f : Option Refusal) → register_fault p room l q ≡ f
        → AtGrant (refusing f l (granted p l q)).answer (Nobody p (with_step p l q)) × Nobody p (standing p (refusing f l (granted p l q)).state)
    go none e =
        let at : Nobody p (with_step p l q) = at-grant p l q now (none_first _ _ (none-second (request_fault q) _ e)) in
        (at, after-grant p l q pos now at)
    go (some r) e = (tt, now)

-- one closing
keeps-closing :
    (p : Policy) (l : List Event) (c : List ℕ) → Nobody p (standing p l)
    → AtGrant (register_close p l c).answer (Unit {0}) × Nobody p (standing p (register_close p l c).state)
unfolding AtGrant register_close shut refusing
keeps-closing p l c now = go (context_fault c)
  where
    go : (f : Option Refusal) → AtGrant (refusing f l (shut p l c)).answer (Unit {0}) × Nobody p (standing p (refusing f l (shut p l c)).state)
    go none = (tt, after-closing p l c now)
    go (some r) = (tt, now)

keeps :
    (p : Policy) (room : ℕ) → Positive p → (l : List Event) (c : Call) → Nobody p (standing p l)
    → AtGrant (register_call p room l c).answer (StepCounted p l c) × Nobody p (standing p (register_call p room l c).state)
unfolding register_call StepCounted
keeps p room pos l (deciding q) now = keeps-deciding p room pos l q now
keeps p room pos l (closing c) now = keeps-closing p l c now

pub nobody-ever : (p : Policy) (room : ℕ) → Positive p → (cs : List Call) → NobodyEver p room [] cs
unfolding NobodyEver
nobody-ever p room pos cs = at_every _ (λ l. Nobody p (standing p l)) (StepCounted p) (keeps p room pos) cs [] (at-start p pos)
