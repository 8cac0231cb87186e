-- Some element passes a test: what is left of a list that is made by index, or of such lists joined, says what the whole says.
-- Assumes nothing.
use Prim.Native.Nat.{ℕ, zero, suc, ◌+◌, ◌-◌, ◌≤◌, ◌<◌}
use native.Mathlib.Numerals.{add-one}
use native.Mathlib.Omega.{arith}
use mathlib.Core.Path.{◌≡◌, sym, ◌∙◌}
use mathlib.Core.Bool.{Bool, true, false, ◌||◌, or-false}
use mathlib.Core.List.{List, flatten}
use Rattle.words.specs.Lists.{tab, any_of}
use Rattle.word_laws.proofs.Keep.{any_of-append}

-- the test of what is left and of what comes next
or_turn : (found x y : Bool) {z w : Bool} → z ≡ x || y → found || z ≡ w → (found || x) || y ≡ w
or_turn true x y e h = h
or_turn false x y e h = sym e ∙ h

module _ {A : Type 0} (t : A → Bool) where
  module _ (f : ℕ → A) (k n : ℕ) where
    pub element-more :
        (found x : Bool) {w : Bool} → found || any_of t (tab f k (n - k)) ≡ w → k < n → x ≡ t (f k)
        → (found || x) || any_of t (tab f (k + 1) (n - (k + 1))) ≡ w
    unfolding tab any_of
    element-more found x {w} h l e =
        let m : n - k ≡ suc (n - suc k) = omega arith in
        rw (add-one k, e) (or_turn found (t (f k)) (any_of t (tab f (suc k) (n - suc k))) (rw m) h)

    pub element-done : (found : Bool) {w : Bool} → found || any_of t (tab f k (n - k)) ≡ w → n ≤ k → found ≡ w
    unfolding tab any_of
    element-done found {w} h l = let z : n - k ≡ zero = omega arith in sym (or-false found) ∙ (rw z at h)

  module _ (f : ℕ → List A) (k n : ℕ) where
    list-turn : (x : Bool) {w : Bool} → any_of t (flatten (tab f k (n - k))) ≡ w → k < n → any_of t (f k) ≡ x
        → x || any_of t (flatten (tab f (k + 1) (n - (k + 1)))) ≡ w
    unfolding tab flatten
    list-turn x {w} h l e =
        let m : n - k ≡ suc (n - suc k) = omega arith in
        rw (add-one k, ← e, ← any_of-append t (f k) (flatten (tab f (suc k) (n - suc k)))) (rw m at h)

    pub list_hit : {w : Bool} → any_of t (flatten (tab f k (n - k))) ≡ w → k < n → any_of t (f k) ≡ true → true ≡ w
    list_hit h l e = list-turn true h l e

    pub list-more : {w : Bool} → any_of t (flatten (tab f k (n - k))) ≡ w → k < n → any_of t (f k) ≡ false
        → any_of t (flatten (tab f (k + 1) (n - (k + 1)))) ≡ w
    list-more h l e = list-turn false h l e

    pub list_done : {w : Bool} → any_of t (flatten (tab f k (n - k))) ≡ w → n ≤ k → false ≡ w
    unfolding tab flatten any_of
    list_done {w} h l = let z : n - k ≡ zero = omega arith in rw z at h
