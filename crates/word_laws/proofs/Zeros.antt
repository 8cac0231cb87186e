-- Laws of `zero_from`: zero bytes side by side, zero fields, and rows of zero parts.
-- Assumes nothing.
use Prim.Native.Nat.{ℕ, zero, suc, ◌+◌, ◌*◌}
use native.Mathlib.Nat.{add-zero, add-suc, add_assoc, mul-zero, mul-suc}
use native.Mathlib.Omega.{arith}
use mathlib.Core.Path.{◌≡◌, refl, sym}
use mathlib.Core.Bool.{Bool, true, false, ◌&&◌, ◌||◌, and_assoc, and-true}
use mathlib.Core.List.{List}
use lib.ListN.{get_or}
use lib.Dec.{eqb, ltb}
use borrow.Author.Tests.{eq-eqb, ne_eqb, eqb-true, eqb-false, le-ltb, lt-ltb}
use Rattle.words.specs.Lists.{all_below}
use Rattle.words.specs.Bytes.{u16_at, zero_from}
use Rattle.word_laws.proofs.Tests.{all_below-true}

-- bytes that are zero, and those behind them
pub zero_from-add : (s : List ℕ) (at n m : ℕ) → zero_from s at (n + m) ≡ zero_from s at n && zero_from s (at + n) m
unfolding zero_from all_below
zero_from-add s at n zero = rw add-zero (sym (and-true (zero_from s at n)))
zero_from-add s at n (suc m) =
    rw (add-suc n m, zero_from-add s at n m, and_assoc, ← add_assoc at n m)

-- two numbers in base 256 are zero where their sum is
zero-digits : (x y : ℕ) → eqb (x + 256 * y) 0 ≡ eqb x 0 && eqb y 0
zero-digits x y = go (eqb x 0) refl (eqb y 0) refl
  where
    go : (p : Bool) → eqb x 0 ≡ p → (q : Bool) → eqb y 0 ≡ q → eqb (x + 256 * y) 0 ≡ p && q
    go true e true f = eq-eqb (x + 256 * y) 0 (omega (arith, eqb-true x 0 e, eqb-true y 0 f))
    go true e false f = ne_eqb (x + 256 * y) 0 (λ z. eqb-false y 0 f (omega arith))
    go false e q f = ne_eqb (x + 256 * y) 0 (λ z. eqb-false x 0 e (omega arith))

-- a field of 1 and one of 2 bytes
pub zero-byte : (s : List ℕ) (at : ℕ) → eqb (get_or s at 0) 0 ≡ zero_from s at 1
unfolding zero_from all_below
zero-byte s at = rw add-zero

pub zero_field : (s : List ℕ) (at : ℕ) → eqb (u16_at s at) 0 ≡ zero_from s at 2
unfolding zero_from all_below
zero_field s at = rw add-zero (zero-digits (get_or s at 0) (get_or s (at + 1) 0))

zero-none : (s : List ℕ) (at : ℕ) → zero_from s at 0 ≡ true
unfolding zero_from all_below
zero-none s at = refl

-- n parts of w bytes, each zero
pub zero-parts : (s : List ℕ) (at w n : ℕ) → all_below n (λ i. zero_from s (at + w * i) w) ≡ zero_from s at (w * n)
unfolding all_below
zero-parts s at w zero = rw mul-zero (sym (zero-none s at))
zero-parts s at w (suc n) = rw (mul-suc, zero_from-add s at (w * n) w, zero-parts s at w n)

-- a test from the n-th on
pub all_below-past : (n m : ℕ) (f : ℕ → Bool) → all_below (n + m) (λ i. ltb i n || f i) ≡ all_below m (λ i. f (n + i))
unfolding all_below
all_below-past n zero f = rw add-zero (all_below-true n (λ i. ltb i n || f i) (λ i h. rw (lt-ltb i n h)))
all_below-past n (suc m) f = rw (add-suc, all_below-past n m f, le-ltb (n + m) n (omega arith))
