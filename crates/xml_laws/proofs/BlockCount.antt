-- How many of the numbers below n pass a test, where all do and where those that do come first.
-- Assumes nothing.
use Prim.Native.Nat.{ℕ, zero, suc, ◌+◌, ◌<◌, ◌≤◌}
use native.Mathlib.Decide.{dec_lt}
use native.Mathlib.Omega.{arith}
use mathlib.Core.Path.{◌≡◌, refl}
use mathlib.Core.Bool.{Bool, true, false, cond}
use borrow.Author.Tests.{lt-ltb, le-ltb}
use lib.Dec.{ltb}
use Rattle.words.specs.Lists.{sum_below}

-- where all pass, they are as many as there are
pub count-all : (f : ℕ → Bool) (n : ℕ) → ((k : ℕ) → k < n → f k ≡ true) → sum_below n (λ k. cond (f k) 1 0) ≡ n
unfolding sum_below
count-all f zero all = refl
count-all f (suc n) all = rw (all n (omega arith), count-all f n (λ k h. all k (omega arith))) (omega arith)

-- where one that passes stands only behind others that pass, none from their number on passes
pub none-behind : (f : ℕ → Bool) (n : ℕ) → ((k : ℕ) → k < n → f k ≡ true → (j : ℕ) → j < k → f j ≡ true)
    → (i : ℕ) → sum_below n (λ k. cond (f k) 1 0) ≤ i → i < n → f i ≡ false
unfolding sum_below
none-behind f zero order i lo hi = absurd (omega arith)
none-behind f (suc n) order i lo hi = go (f n) refl lo (none-behind f n (λ k h. order k (omega arith)) i)
  where
    go :
        (b : Bool) → f n ≡ b → sum_below n (λ k. cond (f k) 1 0) + cond b 1 0 ≤ i
        → (sum_below n (λ k. cond (f k) 1 0) ≤ i → i < n → f i ≡ false) → f i ≡ false
    go true e l ih = absurd (omega (arith, count-all f n (order n (omega arith) e)))
    go false e l ih = here (dec_lt i n)
      where
        here : Dec (i < n) → f i ≡ false
        here (yes h) = ih (omega arith) h
        here (no h) = let s : i ≡ n = omega arith in rw s e

-- the numbers below a bound, counted among the first n
pub count-below : (n l : ℕ) → l ≤ n → sum_below n (λ k. cond (ltb k l) 1 0) ≡ l
unfolding sum_below
count-below zero l h = omega arith
count-below (suc n) l h = go (dec_lt n l) (count-below n l)
  where
    go : Dec (n < l) → (l ≤ n → sum_below n (λ k. cond (ltb k l) 1 0) ≡ l) → sum_below n (λ k. cond (ltb k l) 1 0) + cond (ltb n l) 1 0 ≡ l
    go (yes y) ih = rw (lt-ltb n l y, count-all (λ k. ltb k l) n (λ k i. lt-ltb k l (omega arith))) (omega arith)
    go (no y) ih = rw (le-ltb n l (omega arith), ih (omega arith)) (omega arith)
