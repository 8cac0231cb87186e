-- An entry of the list is found among those that pass a test just if it passes it itself: no two entries stand at one place.
-- Assumes nothing.
use Prim.Native.Nat.{ℕ, suc, ◌<◌, ◌≤◌}
use mathlib.Core.Path.{◌≡◌, refl, sym, ◌∙◌}
use mathlib.Core.Bool.{Bool, true, false, cond}
use mathlib.Core.List.{List, [], ◌∷◌}
use native.Mathlib.Omega.{arith}
use borrow.Author.Tests.{ne_eqb, eq-eqb}
use Rattle.words.specs.Lists.{keep, any_of}
use Rattle.word_laws.proofs.Every.{Every, empty, more as also, every-weaken, every-both, every-keep}
use Rattle.register.specs.Run.{Event, was_granted, was_closed, Entry, numbered, entries_of}
use Rattle.register.specs.Register.{is_in}

numbered-from : (k : ℕ) (l : List Event) → Every (λ x. k ≤ x.at) (numbered k l)
unfolding numbered
numbered-from k [] = empty
numbered-from k (was_granted q ∷ l) =
    let here : k ≤ k = omega arith in
    also here (every-weaken {P = λ x. suc k ≤ x.at} {Q = λ x. k ≤ x.at} (λ x h. omega arith) (numbered-from (suc k) l))
numbered-from k (was_closed c ∷ l) = every-weaken {P = λ x. suc k ≤ x.at} {Q = λ x. k ≤ x.at} (λ x h. omega arith) (numbered-from (suc k) l)

none_in : (x : Entry) {es : List Entry} → Every (λ y. x.at < y.at) es → is_in x es ≡ false
unfolding is_in any_of
none_in x empty = refl
none_in x (also {x = y} h t) = rw (ne_eqb y.at x.at (λ e. omega arith)) (none_in x t)

found : (t : Entry → Bool) (k : ℕ) (l : List Event) → Every (λ x. is_in x (keep t (numbered k l)) ≡ t x) (numbered k l)
unfolding numbered keep is_in any_of
found t k [] = empty
found t k (was_closed c ∷ l) = found t (suc k) l
found t k (was_granted q ∷ l) =
    also (own (t e) refl)
    (every-weaken {P = λ x. (suc k ≤ x.at) × (is_in x (keep t (numbered (suc k) l)) ≡ t x)} {Q = λ x. is_in x (keep t (numbered k (was_granted q ∷ l))) ≡ t x}
    (λ x h. other x h.0 h.1 (t e)) (every-both _ _ (numbered-from (suc k) l) (found t (suc k) l)))
  where
    e : Entry
    e = record { at = k; request = q }

    rest : List Entry
    rest = keep t (numbered (suc k) l)

    own : (b : Bool) → t e ≡ b → is_in e (cond b (e ∷ rest) rest) ≡ t e
    own true s = rw (eq-eqb k k refl) (sym s)
    own false s = none_in e (every-weaken {P = λ x. suc k ≤ x.at} {Q = λ x. k < x.at} (λ x j. j) (every-keep _ t (numbered-from (suc k) l))) ∙ sym s

    other : (x : Entry) → suc k ≤ x.at → is_in x rest ≡ t x → (b : Bool) → is_in x (cond b (e ∷ rest) rest) ≡ t x
    other x j ih true = rw (ne_eqb k x.at (λ s. omega arith)) ih
    other x j ih false = ih

pub found-kept : (t : Entry → Bool) (l : List Event) → Every (λ x. is_in x (keep t (entries_of l)) ≡ t x) (entries_of l)
unfolding entries_of
found-kept t l = found t 0 l
