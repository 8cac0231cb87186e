-- Which entries lie in a run after one more grant: an entry of before goes out with the run that the grant ends (`lies-old`), and the new one comes in
-- where the request gets the rule's mark (`lies-new`). After one more closing: those that it names go out (`lies-closed`). So the entries that lie in a
-- run of a place are that run (`run_lies`).
-- Assumes nothing.
use Prim.Native.Nat.{ℕ, ◌<◌}
use mathlib.Core.Path.{◌≡◌, refl, sym, ap, ◌∙◌}
use mathlib.Core.Bool.{Bool, true, false, cond, not, ◌&&◌, ◌||◌, and-false, and-true}
use mathlib.Core.List.{List, [], ◌∷◌, ◌++◌, append-nil}
use native.Mathlib.Omega.{arith}
use borrow.Author.Tests.{ne_eqb, eq-eqb}
use lib.ListN.{length}
use lib.Dec.{eqb}
use Rattle.words.specs.Lists.{keep, any_of, non_empty, same_list}
use Rattle.word_laws.proofs.Every.{Every, empty, more as also, every-all, every-weaken, every-forall, keep_same}
use Rattle.word_laws.proofs.Keep.{snoc-induction, keep_append, keep-keep, keep-none, any_of-append, empty-is-nil}
use Rattle.word_laws.proofs.Same.{same_refl, same-eq, same-swap}
use Rattle.format.specs.Request.{Request}
use Rattle.format.specs.Context.{begins}
use Rattle.format.specs.Rule.{Rule, is_set}
use Rattle.format.specs.Fits.{fits, place, same_place}
use Rattle.format.specs.Policy.{Policy}
use Rattle.judge.specs.Verdict.{is_first, is_last, judges}
use Rattle.judge.specs.NewTable.{ends, gives}
use Rattle.register.specs.Run.{Event, was_granted, was_closed, Entry, entries_of, of_place, joins, after_grant, after_closing}
use Rattle.register.specs.Register.{run_of, open_run, is_in, lies}
use Rattle.demand3.proofs.Found.{found-kept}
use Rattle.demand3.proofs.Run.{next, entries-nil, entries-snoc, entries-closed, entries-before, run-nil, run-snoc, run-before}

module _ (p : Policy) (i : ℕ) (l : List Event) where
  -- the run after one more grant
  pub run_of-snoc :
      (q : Request) (key : List ℕ)
      → run_of p (l ++ (was_granted q ∷ [])) i key ≡ after_grant (p.rule i) key (next l q) (run_of p l i key)
  unfolding run_of
  run_of-snoc q key = run-snoc (p.rule i) key l (was_granted q)

  -- the run after one more closing
  pub run_of-closed : (c key : List ℕ) → run_of p (l ++ (was_closed c ∷ [])) i key ≡ after_closing c (run_of p l i key)
  unfolding run_of
  run_of-closed c key = run-snoc (p.rule i) key l (was_closed c)

-- ---- membership

not_in : (x : Entry) (es : List Entry) → Every (λ y. y.at < x.at) es → is_in x es ≡ false
unfolding is_in any_of
not_in x [] empty = refl
not_in x (y ∷ es) (also h t) = rw (ne_eqb y.at x.at (λ e. omega arith)) (not_in x es t)

in-none : (x : Entry) → is_in x [] ≡ false
unfolding is_in any_of
in-none x = refl

-- one more entry at the end, which is not the one that is looked for
in-before : (x y : Entry) (es : List Entry) → x.at < y.at → is_in x (es ++ (y ∷ [])) ≡ is_in x es
unfolding is_in any_of
in-before x y es h = any_of-append (λ z. eqb z.at x.at) es (y ∷ []) ∙ rw (ne_eqb y.at x.at (λ e. omega arith)) (go (any_of (λ z. eqb z.at x.at) es))
  where
    go : (b : Bool) → b || (false || false) ≡ b
    go true = refl
    go false = refl

in-last : (x : Entry) (es : List Entry) → is_in x (es ++ (x ∷ [])) ≡ true
unfolding is_in any_of
in-last x es = any_of-append (λ z. eqb z.at x.at) es (x ∷ []) ∙ rw (eq-eqb x.at x.at refl) (go (any_of (λ z. eqb z.at x.at) es))
  where
    go : (b : Bool) → b || (true || false) ≡ true
    go true = refl
    go false = refl

-- ---- one more grant

-- a rule with no first step, at its first step or with a run begun takes part; one that does not has no run
no_run : (b : Bool) (s : List Entry) → b || non_empty s ≡ false → s ≡ []
no_run true s e = cc
no_run false s e = empty-is-nil s e

module _ (p : Policy) (i : ℕ) (l : List Event) (q : Request) where
  -- an entry of before stays in its run, unless the grant ends that run
  pub lies-old :
      (x : Entry) → x.at < length l
      → lies p (l ++ (was_granted q ∷ [])) i x
      ≡ lies p l i x && not (ends p q (open_run p l q) i && same_place (p.rule i) q x.request)
  unfolding lies ends judges open_run same_place of_place after_grant joins
  lies-old x h = rw (run_of-snoc p i l q key) (go (fits r q) (same_list (place r q) key) refl (is_last r q))
    where
      r : Rule
      r = p.rule i

      key : List ℕ
      key = place r x.request

      s : List Entry
      s = run_of p l i key

      start : Bool
      start = not (is_set r.first_step) || is_first r q

      goal : (a b c : Bool) → Type 0
      goal a b c =
          is_in x (cond (a && b) (cond c [] (cond (start || non_empty s) (s ++ (next l q ∷ [])) s)) s)
          ≡ is_in x s && not ((a && (start || non_empty (run_of p l i (place r q)))) && c && b)

      ended : (d : Bool) → start || non_empty s ≡ d → false ≡ is_in x s && not ((d && true) && true)
      ended true e = sym (and-false (is_in x s))
      ended false e = rw (no_run start s e, in-none)

      kept : (d : Bool) → is_in x (cond d (s ++ (next l q ∷ [])) s) ≡ is_in x s
      kept true = in-before x (next l q) s h
      kept false = refl

      go : (a b : Bool) → same_list (place r q) key ≡ b → (c : Bool) → goal a b c
      go false b e c = sym (and-true (is_in x s))
      go true false e c = rw (and-false ((start || non_empty (run_of p l i (place r q))) && c)) (sym (and-true (is_in x s)))
      go true true e true = rw (same-eq (place r q) key e) (in-none x ∙ ended (start || non_empty s) refl)
      go true true e false =
          rw (and-false (start || non_empty (run_of p l i (place r q)))) (kept (start || non_empty s) ∙ sym (and-true (is_in x s)))

  before : (key : List ℕ) → Every (λ y. y.at < length l) (run_of p l i key)
  unfolding run_of
  before key = run-before (p.rule i) key l

  -- the new entry lies in a run where the request gets the rule's mark
  pub lies-new : lies p (l ++ (was_granted q ∷ [])) i (next l q) ≡ gives p q (open_run p l q) i
  unfolding lies gives judges open_run of_place after_grant joins
  lies-new = rw (run_of-snoc p i l q key, same_refl key) (go (fits r q) (is_last r q) (start || non_empty s))
    where
      r : Rule
      r = p.rule i

      key : List ℕ
      key = place r q

      s : List Entry
      s = run_of p l i key

      start : Bool
      start = not (is_set r.first_step) || is_first r q

      new-out : is_in (next l q) s ≡ false
      new-out = not_in (next l q) s (before key)

      go : (a c d : Bool) → is_in (next l q) (cond (a && true) (cond c [] (cond d (s ++ (next l q ∷ [])) s)) s) ≡ (a && d) && not c
      go false c d = new-out
      go true true true = in-none (next l q)
      go true true false = in-none (next l q)
      go true false true = in-last (next l q) s
      go true false false = new-out

-- ---- a run is the entries of its place that lie in it

module _ (p : Policy) (i : ℕ) where
  -- the entry is of the place, and lies in its run
  unfoldable pub stands : List Event → List ℕ → Entry → Bool
  stands l key x = lies p l i x && same_list key (place (p.rule i) x.request)

  module _ (l : List Event) (q : Request) (key : List ℕ) (ih : keep (stands l key) (entries_of l) ≡ run_of p l i key) where
    -- the entries of before, where the grant ends the run or not
    old-part :
        keep (stands (l ++ (was_granted q ∷ [])) key) (entries_of l)
        ≡ cond (ends p q (open_run p l q) i && same_list (place (p.rule i) q) key) [] (run_of p l i key)
    unfolding stands same_place
    old-part =
        keep_same (stands (l ++ (was_granted q ∷ [])) key) (λ x. stands l key x && not E) (every-weaken {P = λ x. x.at < length l} {Q = λ x. stands (l ++ (was_granted q ∷ [])) key x ≡ stands l key x && not E} each (entries-before l))
        ∙ all E
      where
        E : Bool
        E = ends p q (open_run p l q) i && same_list (place (p.rule i) q) key

        each : (x : Entry) → x.at < length l → stands (l ++ (was_granted q ∷ [])) key x ≡ stands l key x && not E
        each x h = rw (lies-old p i l q x h) (go (lies p l i x) (ends p q (open_run p l q) i) (same_list key (place (p.rule i) x.request)) refl)
          where
            go :
                (a e b : Bool) → same_list key (place (p.rule i) x.request) ≡ b
                → (a && not (e && same_list (place (p.rule i) q) (place (p.rule i) x.request))) && b
                ≡ (a && b) && not (e && same_list (place (p.rule i) q) key)
            go a e true t = rw (← same-eq key (place (p.rule i) x.request) t, and-true, and-true)
            go a e false t = rw (and-false, and-false)

        all : (z : Bool) → keep (λ x. stands l key x && not z) (entries_of l) ≡ cond z [] (run_of p l i key)
        all true =
            keep_same (λ x. stands l key x && false) (λ x. false) (every-all (λ x. stands l key x && false ≡ false) (λ x. and-false (stands l key x)) (entries_of l))
            ∙ keep-none (entries_of l)
        all false =
            keep_same (λ x. stands l key x && true) (stands l key) (every-all (λ x. stands l key x && true ≡ stands l key x) (λ x. and-true (stands l key x)) (entries_of l))
            ∙ ih

    -- the new entry
    new-part :
        keep (stands (l ++ (was_granted q ∷ [])) key) (next l q ∷ [])
        ≡ cond (gives p q (open_run p l q) i && same_list key (place (p.rule i) q)) (next l q ∷ []) []
    unfolding keep stands
    new-part = rw (lies-new p i l q)

    -- the grant's own place, and any other
    step : keep (stands (l ++ (was_granted q ∷ [])) key) (entries_of (l ++ (was_granted q ∷ []))) ≡ run_of p (l ++ (was_granted q ∷ [])) i key
    unfolding ends gives judges open_run of_place after_grant joins
    step =
        rw (entries-snoc l q, keep_append (stands (l ++ (was_granted q ∷ [])) key) (entries_of l) (next l q ∷ []), old-part, new-part, run_of-snoc p i l q key)
        (go (same_list (place r q) key) refl)
      where
        r : Rule
        r = p.rule i

        s : List Entry
        s = run_of p l i key

        start : Bool
        start = not (is_set r.first_step) || is_first r q

        d : Bool
        d = start || non_empty (run_of p l i (place r q))

        here :
            (a c e : Bool) → start || non_empty s ≡ e
            → cond (((a && e) && c) && true) [] s ++ cond (((a && e) && not c) && true) (next l q ∷ []) []
            ≡ cond (a && true) (cond c [] (cond e (s ++ (next l q ∷ [])) s)) s
        here false c e t = append-nil s
        here true true true t = refl
        here true true false t = append-nil s ∙ no_run start s t
        here true false true t = refl
        here true false false t = append-nil s

        go :
            (b : Bool) → same_list (place r q) key ≡ b
            → cond (((fits r q && d) && is_last r q) && b) [] s ++ cond (((fits r q && d) && not (is_last r q)) && same_list key (place r q)) (next l q ∷ []) []
            ≡ cond (fits r q && b) (cond (is_last r q) [] (cond (start || non_empty s) (s ++ (next l q ∷ [])) s)) s
        go true t = rw (same-eq (place r q) key t, same_refl key) (here (fits r q) (is_last r q) (start || non_empty s) refl)
        go false t = rw (same-swap (place r q) key t, and-false ((fits r q && d) && is_last r q), and-false ((fits r q && d) && not (is_last r q)), and-false (fits r q)) (append-nil s)

  -- one more closing
  module _ (l : List Event) (c key : List ℕ) (ih : keep (stands l key) (entries_of l) ≡ run_of p l i key) where
    stays : Entry → Bool
    stays x = not (begins c x.request)

    -- those that stood in the run and are not named
    closed-stands : Every (λ x. stands (l ++ (was_closed c ∷ [])) key x ≡ stands l key x && stays x) (entries_of l)
    unfolding stands lies stays after_closing
    closed-stands =
        every-weaken {P = λ x. is_in x (keep (λ y. stands l key y && stays y) (entries_of l)) ≡ stands l key x && stays x} {Q = λ x. stands (l ++ (was_closed c ∷ [])) key x ≡ stands l key x && stays x}
        (λ x f. each x f (same_list key (place (p.rule i) x.request)) refl)
        (found-kept (λ y. stands l key y && stays y) l)
      where
        left : run_of p (l ++ (was_closed c ∷ [])) i key ≡ keep (λ y. stands l key y && stays y) (entries_of l)
        left = run_of-closed p i l c key ∙ ap (keep stays) (sym ih) ∙ keep-keep (stands l key) stays (entries_of l)

        each :
            (x : Entry) → is_in x (keep (λ y. stands l key y && stays y) (entries_of l)) ≡ stands l key x && stays x
            → (b : Bool) → same_list key (place (p.rule i) x.request) ≡ b
            → lies p (l ++ (was_closed c ∷ [])) i x && b ≡ (lies p l i x && b) && stays x
        each x f false e = rw (and-false (lies p (l ++ (was_closed c ∷ [])) i x), and-false (lies p l i x))
        each x f true e =
            rw (and-true (lies p (l ++ (was_closed c ∷ [])) i x), ← e)
            (ap (λ (z : List ℕ). is_in x (run_of p (l ++ (was_closed c ∷ [])) i z)) (sym (same-eq key (place (p.rule i) x.request) e)) ∙ ap (is_in x) left ∙ f)

    step-closed : keep (stands (l ++ (was_closed c ∷ [])) key) (entries_of (l ++ (was_closed c ∷ []))) ≡ run_of p (l ++ (was_closed c ∷ [])) i key
    unfolding stays after_closing
    step-closed =
        rw (entries-closed l c)
        (keep_same (stands (l ++ (was_closed c ∷ [])) key) (λ x. stands l key x && stays x) closed-stands
        ∙ sym (keep-keep (stands l key) stays (entries_of l))
        ∙ ap (keep stays) ih
        ∙ sym (run_of-closed p i l c key))

  pub run_lies : (key : List ℕ) (l : List Event) → keep (stands l key) (entries_of l) ≡ run_of p l i key
  unfolding run_of keep
  run_lies key = snoc-induction (λ l. keep (stands l key) (entries_of l) ≡ run_of p l i key) nothing more
    where
      nothing : keep (stands [] key) (entries_of []) ≡ run_of p [] i key
      nothing = rw (entries-nil, run-nil)

      more :
          (l : List Event) (e : Event) → keep (stands l key) (entries_of l) ≡ run_of p l i key
          → keep (stands (l ++ (e ∷ [])) key) (entries_of (l ++ (e ∷ []))) ≡ run_of p (l ++ (e ∷ [])) i key
      more l (was_granted q) ih = step l q key ih
      more l (was_closed c) ih = step-closed l c key ih

  -- an entry lies in a run after a closing if it did before and is not named
  pub lies-closed :
      (l : List Event) (c : List ℕ)
      → Every (λ x. lies p (l ++ (was_closed c ∷ [])) i x ≡ lies p l i x && not (begins c x.request)) (entries_of l)
  unfolding stands stays
  lies-closed l c =
      every-weaken {P = λ x. (key : List ℕ) → Q key x} {Q = λ x. lies p (l ++ (was_closed c ∷ [])) i x ≡ lies p l i x && not (begins c x.request)}
      own (every-forall Q (entries_of l) (λ key. closed-stands l c key (run_lies key l)))
    where
      Q : List ℕ → Entry → Type 0
      Q key x = stands (l ++ (was_closed c ∷ [])) key x ≡ stands l key x && not (begins c x.request)

      own : (x : Entry) → ((key : List ℕ) → Q key x) → lies p (l ++ (was_closed c ∷ [])) i x ≡ lies p l i x && not (begins c x.request)
      own x q =
          let key = place (p.rule i) x.request in
          rw (same_refl key, and-true (lies p (l ++ (was_closed c ∷ [])) i x), and-true (lies p l i x)) at (q key)
