-- When nothing applies: `none` of a test, of two checks in a row, and of a check at each number of a range. And the search for
-- the first that applies, as a loop takes it.
-- Assumes nothing.
use Prim.Native.Nat.{ℕ, zero, suc, ◌+◌, ◌-◌, ◌≤◌, ◌<◌}
use native.Mathlib.Nat.{sub-zero}
use native.Mathlib.Numerals.{add-one}
use native.Mathlib.Decide.{dec_lt}
use native.Mathlib.Omega.{arith}
use mathlib.Core.Path.{◌≡◌, refl, sym, ◌∙◌}
use mathlib.Core.Bool.{Bool, true, false}
use mathlib.Core.Option.{Option, none, some}
use Rattle.words.specs.First.{◌or_else◌, unless, first}

module _ {A : Type 0} where
  pub unless-passes : {t : Bool} (a : A) → t ≡ true → unless t a ≡ none
  unfolding unless
  unless-passes a h = rw h

  pub passes-unless : (t : Bool) (a : A) → unless t a ≡ none → t ≡ true
  unfolding unless
  passes-unless true a h = refl
  passes-unless false a h = cc

  pub unless-fails : {t : Bool} (a : A) → t ≡ false → unless t a ≡ some a
  unfolding unless
  unless-fails a h = rw h

  pub or_else-none : {x y : Option A} → x ≡ none → y ≡ none → x or_else y ≡ none
  unfolding ◌or_else◌
  or_else-none p q = rw (p, q)

  pub none_first : (x y : Option A) → x or_else y ≡ none → x ≡ none
  unfolding ◌or_else◌
  none_first none y h = refl
  none_first (some a) y h = h

  pub none-second : (x y : Option A) → x or_else y ≡ none → y ≡ none
  unfolding ◌or_else◌
  none-second none y h = h
  none-second (some a) y h = cc

  pub first-none : (f : ℕ → Option A) (k n : ℕ) → ((i : ℕ) → k ≤ i → i < k + n → f i ≡ none) → first f k n ≡ none
  unfolding first
  first-none f k zero h = refl
  first-none f k (suc n) h = or_else-none (h k (omega arith) (omega arith)) (first-none f (suc k) n (λ i lo hi. h i (omega arith) (omega arith)))

  pub none-at : (f : ℕ → Option A) (k n i : ℕ) → first f k n ≡ none → k ≤ i → i < k + n → f i ≡ none
  unfolding first
  none-at f k zero i h lo hi = absurd (omega arith)
  none-at f k (suc n) i h lo hi = go (none-at f (suc k) n i (none-second (f k) (first f (suc k) n) h)) (dec_lt k i)
    where
      go : (suc k ≤ i → i < suc k + n → f i ≡ none) → Dec (k < i) → f i ≡ none
      go later (yes l) = later l (omega arith)
      go later (no g) = let e : i ≡ k = omega arith in rw e (none_first (f k) (first f (suc k) n) h)

  -- where the first of two does not apply, the second decides
  pub none-or_else : (x y : Option A) → x ≡ none → x or_else y ≡ y
  unfolding ◌or_else◌
  none-or_else x y e = rw e

  -- rows that agree give the same first
  pub first-same : (f g : ℕ → Option A) (k n : ℕ) → ((i : ℕ) → k ≤ i → i < k + n → f i ≡ g i) → first f k n ≡ first g k n
  unfolding first
  first-same f g k zero h = refl
  first-same f g k (suc n) h =
      rw (h k (omega arith) (omega arith), first-same f g (suc k) n (λ i a b. h i (omega arith) (omega arith)))

  some-or_else : (x y : Option A) {a : A} → x ≡ some a → x or_else y ≡ some a
  unfolding ◌or_else◌
  some-or_else x y e = rw e

  -- a test before what follows: it fails, or what follows decides
  pub test-fails : {t : Bool} (a : A) (o : Option A) → t ≡ false → unless t a or_else o ≡ some a
  unfolding unless ◌or_else◌
  test-fails a o h = rw h

  pub test-passes : {t : Bool} (a : A) (o : Option A) → t ≡ true → unless t a or_else o ≡ o
  unfolding unless ◌or_else◌
  test-passes a o h = rw h

  -- ---- the search for the first that applies of f 0, .., f (n - 1), at the number k: what is left says what the whole says, t

  first_step : (f : ℕ → Option A) (k n : ℕ) → k < n → first f k (n - k) ≡ f k or_else first f (k + 1) (n - (k + 1))
  unfolding first
  first_step f k n h = let e : n - k ≡ suc (n - suc k) = omega arith in rw (add-one k, e)

  pub first-start : (f : ℕ → Option A) (n : ℕ) → first f 0 (n - 0) ≡ first f 0 n
  first-start f n = rw sub-zero

  pub first-hit : (f : ℕ → Option A) (k n : ℕ) {t : Option A} {a : A} → first f k (n - k) ≡ t → k < n → f k ≡ some a → some a ≡ t
  first-hit f k n i h e = sym (some-or_else (f k) (first f (k + 1) (n - (k + 1))) e) ∙ sym (first_step f k n h) ∙ i

  pub first_more : (f : ℕ → Option A) (k n : ℕ) {t : Option A} → first f k (n - k) ≡ t → k < n → f k ≡ none → first f (k + 1) (n - (k + 1)) ≡ t
  first_more f k n i h e = sym (none-or_else (f k) (first f (k + 1) (n - (k + 1))) e) ∙ sym (first_step f k n h) ∙ i

  pub first_done : (f : ℕ → Option A) (k n : ℕ) {t : Option A} → first f k (n - k) ≡ t → n ≤ k → none ≡ t
  unfolding first
  first_done f k n i h = let e : n - k ≡ zero = omega arith in rw e at i
