-- What one more entry of the list does to a run (`run-snoc`, by which a run is defined from the front), and what a run has: all of it is of its place and
-- stands in the list (`run-place`, `run-before`).
-- Assumes nothing.
use Prim.Native.Nat.{ℕ, suc, ◌+◌, ◌<◌}
use mathlib.Core.Path.{◌≡◌, refl, ◌∙◌}
use mathlib.Core.Bool.{Bool, true, false, cond, not}
use mathlib.Core.List.{List, [], ◌∷◌, ◌++◌, append-nil}
use native.Mathlib.Omega.{arith}
use lib.ListN.{length}
use Rattle.word_laws.proofs.Every.{Every, empty, more as also, every-all, every_append, every-left, every-right, every-head, every-weaken, every-keep}
use Rattle.word_laws.proofs.Keep.{snoc-induction}
use Rattle.format.specs.Request.{Request}
use Rattle.format.specs.Context.{begins}
use Rattle.format.specs.Rule.{Rule}
use Rattle.judge.specs.Verdict.{is_last}
use Rattle.register.specs.Run.{Event, was_granted, was_closed, Entry, numbered, entries_of, of_place, joins, after_grant, after_closing, run_from, run}

-- ---- entries

-- the entry of a request that is appended to a list
abbrev pub next : List Event → Request → Entry
next l q = record { at = length l; request = q }

-- the entries that one more at place k has: a closing is none
abbrev entry_at : ℕ → Event → List Entry
entry_at k (was_granted q) = record { at = k; request = q } ∷ []
entry_at k (was_closed c) = []

numbered-snoc : (k : ℕ) (l : List Event) (e : Event) → numbered k (l ++ (e ∷ [])) ≡ numbered k l ++ entry_at (k + length l) e
unfolding numbered
numbered-snoc k [] (was_granted q) = let z : k + 0 ≡ k = omega arith in rw z
numbered-snoc k [] (was_closed c) = refl
numbered-snoc k (was_granted x ∷ l) e = let z : k + suc (length l) ≡ suc k + length l = omega arith in rw (z, numbered-snoc (suc k) l e)
numbered-snoc k (was_closed x ∷ l) e = let z : k + suc (length l) ≡ suc k + length l = omega arith in rw (z, numbered-snoc (suc k) l e)

pub entries-snoc : (l : List Event) (q : Request) → entries_of (l ++ (was_granted q ∷ [])) ≡ entries_of l ++ (next l q ∷ [])
unfolding entries_of
entries-snoc l q = let e : 0 + length l ≡ length l = omega arith in numbered-snoc 0 l (was_granted q) ∙ rw e

pub entries-closed : (l : List Event) (c : List ℕ) → entries_of (l ++ (was_closed c ∷ [])) ≡ entries_of l
unfolding entries_of
entries-closed l c = numbered-snoc 0 l (was_closed c) ∙ append-nil (numbered 0 l)

pub entries-nil : entries_of [] ≡ []
unfolding entries_of numbered
entries-nil = refl

numbered_below : (k : ℕ) (l : List Event) → Every (λ x. x.at < k + length l) (numbered k l)
unfolding numbered
numbered_below k [] = empty
numbered_below k (was_granted q ∷ l) =
    let here : k < k + suc (length l) = omega arith in
    also here (every-weaken {P = λ x. x.at < suc k + length l} {Q = λ x. x.at < k + suc (length l)} (λ x h. omega arith) (numbered_below (suc k) l))
numbered_below k (was_closed c ∷ l) =
    every-weaken {P = λ x. x.at < suc k + length l} {Q = λ x. x.at < k + suc (length l)} (λ x h. omega arith) (numbered_below (suc k) l)

-- an entry of a list stands before the list's end
pub entries-before : (l : List Event) → Every (λ x. x.at < length l) (entries_of l)
unfolding entries_of
entries-before l = every-weaken {P = λ x. x.at < 0 + length l} {Q = λ x. x.at < length l} (λ x h. omega arith) (numbered_below 0 l)

-- ---- the run

-- what one more does to a run that stands so far
abbrev pub run_next : Rule → List ℕ → ℕ → Event → List Entry → List Entry
run_next r key k (was_granted q) s = after_grant r key (record { at = k; request = q }) s
run_next r key k (was_closed c) s = after_closing c s

pub run-nil : (r : Rule) (key : List ℕ) → run r key [] ≡ []
unfolding run run_from
run-nil r key = refl

run_from-snoc :
    (r : Rule) (key : List ℕ) (k : ℕ) (s : List Entry) (l : List Event) (e : Event)
    → run_from r key k s (l ++ (e ∷ [])) ≡ run_next r key (k + length l) e (run_from r key k s l)
unfolding run_from
run_from-snoc r key k s [] (was_granted q) = let z : k + 0 ≡ k = omega arith in rw z
run_from-snoc r key k s [] (was_closed c) = refl
run_from-snoc r key k s (was_granted x ∷ l) e = let z : k + suc (length l) ≡ suc k + length l = omega arith in rw z (run_from-snoc r key (suc k) _ l e)
run_from-snoc r key k s (was_closed x ∷ l) e = let z : k + suc (length l) ≡ suc k + length l = omega arith in rw z (run_from-snoc r key (suc k) _ l e)

pub run-snoc : (r : Rule) (key : List ℕ) (l : List Event) (e : Event) → run r key (l ++ (e ∷ [])) ≡ run_next r key (length l) e (run r key l)
unfolding run
run-snoc r key l e = let z : 0 + length l ≡ length l = omega arith in run_from-snoc r key 0 [] l e ∙ rw z

-- ---- what a run has

-- whatever holds of each entry of the list that is of the place holds of each entry of the run
run-every : (r : Rule) (key : List ℕ) (P : Entry → Type 0) (l : List Event) → Every (λ x. of_place r key x ≡ true → P x) (entries_of l) → Every P (run r key l)
unfolding after_grant after_closing
run-every r key P =
    snoc-induction (λ l. Every Q (entries_of l) → Every P (run r key l))
    (λ h. rw run-nil empty)
    more
  where
    Q : Entry → Type 0
    Q x = of_place r key x ≡ true → P x

    one : (x : Entry) (s : List Entry) → Every P s → Q x → Every P (after_grant r key x s)
    one x s ih q = go (of_place r key x) refl (is_last r x.request) (joins r x.request s)
      where
        go :
            (a : Bool) → of_place r key x ≡ a → (b c : Bool)
            → Every P (cond a (cond b [] (cond c (s ++ (x ∷ [])) s)) s)
        go true e true c = empty
        go true e false true = every_append ih (also (q e) empty)
        go true e false false = ih
        go false e b c = ih

    more : (l : List Event) (e : Event) → (Every Q (entries_of l) → Every P (run r key l)) → Every Q (entries_of (l ++ (e ∷ []))) → Every P (run r key (l ++ (e ∷ [])))
    more l (was_granted q) ih h =
        let h' : Every Q (entries_of l ++ (next l q ∷ [])) = rw (← entries-snoc l q) h in
        rw (run-snoc r key l (was_granted q))
        (one (next l q) (run r key l) (ih (every-left Q (entries_of l) (next l q ∷ []) h')) (every-head Q (every-right Q (entries_of l) (next l q ∷ []) h')))
    more l (was_closed c) ih h =
        let h' : Every Q (entries_of l) = rw (← entries-closed l c) h in
        rw (run-snoc r key l (was_closed c)) (every-keep P (λ x. not (begins c x.request)) (ih h'))

-- all that a run has fits the rule and is of its place
pub run-place : (r : Rule) (key : List ℕ) (l : List Event) → Every (λ x. of_place r key x ≡ true) (run r key l)
run-place r key l =
    run-every r key (λ x. of_place r key x ≡ true) l
    (every-all (λ x. of_place r key x ≡ true → of_place r key x ≡ true) (λ x e. e) (entries_of l))

-- and stands in the list
pub run-before : (r : Rule) (key : List ℕ) (l : List Event) → Every (λ x. x.at < length l) (run r key l)
run-before r key l =
    run-every r key (λ x. x.at < length l) l
    (every-weaken {P = λ x. x.at < length l} {Q = λ x. of_place r key x ≡ true → x.at < length l} (λ x h e. h) (entries-before l))
