-- The search through rows, each a search of its own, left at the first that applies: what is left says what the whole says, t.
-- Assumes nothing.
use Prim.Native.Nat.{ℕ, zero, suc, ◌+◌, ◌-◌, ◌≤◌, ◌<◌}
use native.Mathlib.Nat.{sub-zero}
use native.Mathlib.Numerals.{add-one}
use native.Mathlib.Omega.{arith}
use mathlib.Core.Path.{◌≡◌, sym, ap, ◌∙◌}
use mathlib.Core.Option.{Option, none, some}
use Rattle.words.specs.First.{◌or_else◌, first}

module _ {A : Type 0} where
  step : (f : ℕ → Option A) (k n : ℕ) → k < n → first f k (n - k) ≡ f k or_else first f (k + 1) (n - (k + 1))
  unfolding first
  step f k n h = let e : n - k ≡ suc (n - suc k) = omega arith in rw (add-one k, e)

  -- what is left of row i, whose places are those of g, and of the rows f behind it
  abbrev pub left : (ℕ → Option A) → (ℕ → Option A) → ℕ → ℕ → ℕ → ℕ → Option A
  left f g i n e m = first g e (m - e) or_else first f (i + 1) (n - (i + 1))

  module _ (f g : ℕ → Option A) (i n : ℕ) {t : Option A} where
    pub row-enter : (m : ℕ) → first f i (n - i) ≡ t → i < n → f i ≡ first g 0 m → left f g i n 0 m ≡ t
    row-enter m h l e = rw (sub-zero m, ← e, ← step f i n l) h

    place-left : (e m : ℕ) (x : Option A) → left f g i n e m ≡ t → e < m → g e ≡ x
        → (x or_else first g (e + 1) (m - (e + 1))) or_else first f (i + 1) (n - (i + 1)) ≡ t
    place-left e m x h l k =
        ap (λ (o : Option A). (o or_else first g (e + 1) (m - (e + 1))) or_else first f (i + 1) (n - (i + 1))) (sym k)
        ∙ ap (λ (o : Option A). o or_else first f (i + 1) (n - (i + 1))) (sym (step g e m l))
        ∙ h

    pub row-hit : (e m : ℕ) {a : A} → left f g i n e m ≡ t → e < m → g e ≡ some a → some a ≡ t
    unfolding ◌or_else◌
    row-hit e m {a} h l k = place-left e m (some a) h l k

    pub row_more : (e m : ℕ) → left f g i n e m ≡ t → e < m → g e ≡ none → left f g i n (e + 1) m ≡ t
    unfolding ◌or_else◌
    row_more e m h l k = place-left e m none h l k

    pub row_done : (e m : ℕ) → left f g i n e m ≡ t → m ≤ e → first f (i + 1) (n - (i + 1)) ≡ t
    unfolding ◌or_else◌ first
    row_done e m h l = let z : m - e ≡ zero = omega arith in rw z at h
