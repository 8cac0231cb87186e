-- Sums and tests below a number, taken one further, and those that agree.
-- Assumes nothing.
use Prim.Native.Nat.{ℕ, zero, suc, ◌+◌, ◌<◌, ◌≤◌}
use native.Mathlib.Numerals.{add-one}
use native.Mathlib.Omega.{arith}
use mathlib.Core.Path.{◌≡◌, refl, ap₂}
use mathlib.Core.Bool.{Bool, true, false, cond, ◌||◌}
use Rattle.words.specs.Lists.{sum_below, any_below}

-- a loop's turn at n: the sum, or the test, of the numbers below n goes to that of those below n + 1
pub sum_more : (f : ℕ → ℕ) (n x v : ℕ) → x ≡ sum_below n f → v ≡ f n → x + v ≡ sum_below (n + 1) f
unfolding sum_below
sum_more f n x v e g = rw (add-one n) (ap₂ {C = ℕ} (λ a b. a + b) e g)

pub any-more : (f : ℕ → Bool) (n : ℕ) (x v : Bool) → x ≡ any_below n f → v ≡ f n → x || v ≡ any_below (n + 1) f
unfolding any_below
any-more f n x v e g = rw (add-one n) (ap₂ {C = Bool} (λ a b. a || b) e g)

-- the loop's end
pub sum-all : (f : ℕ → ℕ) (j n x : ℕ) → x ≡ sum_below j f → j ≡ n → x ≡ sum_below n f
sum-all f j n x e g = rw (← g) e

pub any-all : (f : ℕ → Bool) (j n : ℕ) (x : Bool) → x ≡ any_below j f → j ≡ n → x ≡ any_below n f
any-all f j n x e g = rw (← g) e

-- numbers that agree below n have one sum
pub sum_below-same : (n : ℕ) (f g : ℕ → ℕ) → ((i : ℕ) → i < n → f i ≡ g i) → sum_below n f ≡ sum_below n g
unfolding sum_below
sum_below-same zero f g h = refl
sum_below-same (suc n) f g h = rw (h n (omega arith), sum_below-same n f g (λ i k. h i (omega arith)))

-- as many as pass a test
pub sum-most : (n : ℕ) (f : ℕ → Bool) → sum_below n (λ k. cond (f k) 1 0) ≤ n
unfolding sum_below
sum-most zero f = omega arith
sum-most (suc n) f = go (sum-most n f) (f n)
  where
    go : sum_below n (λ k. cond (f k) 1 0) ≤ n → (b : Bool) → sum_below n (λ k. cond (f k) 1 0) + cond b 1 0 ≤ suc n
    go h true = omega arith
    go h false = omega arith
