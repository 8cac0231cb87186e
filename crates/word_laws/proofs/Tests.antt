-- Tests that pass and tests that fail: two of them joined, and one at each number below a bound.
-- Assumes nothing.
use Prim.Native.Nat.{ℕ, zero, suc, ◌<◌}
use native.Mathlib.Decide.{dec_lt}
use native.Mathlib.Omega.{arith}
use mathlib.Core.Path.{◌≡◌, refl, sym, ◌∙◌}
use mathlib.Core.Bool.{Bool, true, false, ◌&&◌, ◌||◌}
use Rattle.words.specs.Lists.{all_below, any_below}

-- ---- two tests

pub both : {x y : Bool} → x ≡ true → y ≡ true → x && y ≡ true
both p q = rw (p, q)

pub both_first : (x y : Bool) → x && y ≡ true → x ≡ true
both_first true y h = refl
both_first false y h = h

pub both-second : (x y : Bool) → x && y ≡ true → y ≡ true
both-second true y h = h
both-second false y h = cc

pub neither-first : (x y : Bool) → x || y ≡ false → x ≡ false
neither-first true y h = h
neither-first false y h = refl

pub neither-second : (x y : Bool) → x || y ≡ false → y ≡ false
neither-second true y h = cc
neither-second false y h = h

-- ---- a test at each number below a bound

-- a number below suc n is below n, or is n
pub below_suc : (P : ℕ → Type 0) (n i : ℕ) → i < suc n → (i < n → P i) → P n → P i
below_suc P n i b lower last = go (dec_lt i n)
  where
    go : Dec (i < n) → P i
    go (yes l) = lower l
    go (no g) = let e : i ≡ n = omega arith in rw e last

pub all_below-true : (n : ℕ) (f : ℕ → Bool) → ((i : ℕ) → i < n → f i ≡ true) → all_below n f ≡ true
unfolding all_below
all_below-true zero f h = refl
all_below-true (suc n) f h = both (all_below-true n f (λ i b. h i (omega arith))) (h n (omega arith))

pub all_below-at : (n i : ℕ) (f : ℕ → Bool) → all_below n f ≡ true → i < n → f i ≡ true
unfolding all_below
all_below-at zero i f h b = absurd (omega arith)
all_below-at (suc n) i f h b =
    below_suc (λ j. f j ≡ true) n i b (all_below-at n i f (both_first (all_below n f) (f n) h)) (both-second (all_below n f) (f n) h)

-- one that fails is enough
pub all_below-fails : (n i : ℕ) (f : ℕ → Bool) → i < n → f i ≡ false → false ≡ all_below n f
all_below-fails n i f h e = go (all_below n f) refl
  where
    go : (b : Bool) → all_below n f ≡ b → false ≡ b
    go true all = sym e ∙ all_below-at n i f all h
    go false all = refl

-- tests that agree below n pass together
pub all_below-same : (n : ℕ) (f g : ℕ → Bool) → ((i : ℕ) → i < n → f i ≡ g i) → all_below n f ≡ all_below n g
unfolding all_below
all_below-same zero f g h = refl
all_below-same (suc n) f g h = rw (h n (omega arith), all_below-same n f g (λ i k. h i (omega arith)))

pub any_below-false : (n : ℕ) (f : ℕ → Bool) → ((i : ℕ) → i < n → f i ≡ false) → any_below n f ≡ false
unfolding any_below
any_below-false zero f h = refl
any_below-false (suc n) f h = rw (any_below-false n f (λ i b. h i (omega arith)), h n (omega arith))

pub any_below-at : (n i : ℕ) (f : ℕ → Bool) → any_below n f ≡ false → i < n → f i ≡ false
unfolding any_below
any_below-at zero i f h b = absurd (omega arith)
any_below-at (suc n) i f h b =
    below_suc (λ j. f j ≡ false) n i b (any_below-at n i f (neither-first (any_below n f) (f n) h)) (neither-second (any_below n f) (f n) h)
