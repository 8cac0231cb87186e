-- Laws of `bit` and `bits`: a number of bits says what its bits were made from, and is 0 where none was set.
-- Assumes nothing.
use Prim.Native.Nat.{ℕ, zero, suc, ◌+◌, ◌*◌, ◌/◌, ◌%◌, ◌^◌, ◌<◌, ◌≤◌}
use mathlib.Core.Path.{◌≡◌, refl, sym, ap, ◌∙◌}
use mathlib.Core.Bool.{Bool, true, false, cond, not, ◌&&◌, ◌||◌, or-true}
use native.Mathlib.Nat.{pow-suc}
use native.Mathlib.Numerals.{one-add}
use native.Mathlib.Decide.{dec_lt}
use native.Mathlib.Omega.{arith}
use borrow.Author.Tests.{eq-eqb, ne_eqb}
use lib.Dec.{eqb}
use lib.Pow.{pow_pos, shr-shr, shr_le}
use Rattle.words.specs.Lists.{any_below}
use Rattle.words.specs.Bytes.{bit, bits}

pub bits_below : (n : ℕ) (f : ℕ → Bool) → bits n f < 2 ^ n
unfolding bits
bits_below zero f = omega arith
bits_below (suc n) f = go (bits_below n f) (f n)
  where
    go : bits n f < 2 ^ n → (b : Bool) → bits n f + cond b (2 ^ n) 0 < 2 ^ suc n
    go h true = omega (arith, pow_pos n)
    go h false = omega (arith, pow_pos n)

-- the lowest bit apart
pub bits-shift : (n : ℕ) (f : ℕ → Bool) → bits (suc n) f ≡ bits n (λ i. f (suc i)) * 2 + cond (f 0) 1 0
unfolding bits
bits-shift zero f = go (f 0)
  where
    go : (b : Bool) → 0 + cond b (2 ^ 0) 0 ≡ 0 * 2 + cond b 1 0
    go true = refl
    go false = refl
bits-shift (suc n) f = rw (bits-shift n f) (go (f (suc n)) (cond (f 0) 1 0) (bits n (λ i. f (suc i))))
  where
    go : (b : Bool) (c x : ℕ) → x * 2 + c + cond b (2 ^ suc n) 0 ≡ (x + cond b (2 ^ n) 0) * 2 + c
    go true c x = power (2 ^ suc n) (2 ^ n) (pow-suc 2 n)
      where
        power : (y z : ℕ) → y ≡ z * 2 → x * 2 + c + y ≡ (x + z) * 2 + c
        power y z e = omega arith
    go false c x = omega arith

bit-zero : (x : ℕ) (b : Bool) → bit 0 (x * 2 + cond b 1 0) ≡ b
unfolding bit
bit-zero x true = eq-eqb ((x * 2 + 1) / 2 ^ 0 % 2) 1 (omega arith)
bit-zero x false = ne_eqb ((x * 2 + 0) / 2 ^ 0 % 2) 1 (λ e. omega arith)

bit-suc : (i x : ℕ) (b : Bool) → bit (suc i) (x * 2 + cond b 1 0) ≡ bit i x
unfolding bit
bit-suc i x b = ap (λ (y : ℕ). eqb (y % 2) 1) (go (x * 2 + cond b 1 0) (half b))
  where
    half : (c : Bool) → (x * 2 + cond c 1 0) / 2 ≡ x
    half true = omega arith
    half false = omega arith

    go : (y : ℕ) → y / 2 ≡ x → y / 2 ^ suc i ≡ x / 2 ^ i
    go y e = ap (λ (k : ℕ). y / 2 ^ k) (sym (one-add i)) ∙ sym (shr-shr y 1 i) ∙ ap (λ (z : ℕ). z / 2 ^ i) e

pub bit-none : (i : ℕ) → bit i 0 ≡ false
unfolding bit
bit-none i = ne_eqb (0 / 2 ^ i % 2) 1 (λ e. omega (arith, shr_le 0 i))

-- bit i is what the number was made from, below n
pub bit-bits : (n : ℕ) (f : ℕ → Bool) (i : ℕ) → i < n → bit i (bits n f) ≡ f i
bit-bits zero f i h = absurd (omega arith)
bit-bits (suc n) f zero h = rw (bits-shift n f) (bit-zero (bits n (λ i. f (suc i))) (f 0))
bit-bits (suc n) f (suc i) h =
    rw (bits-shift n f) (bit-suc i (bits n (λ j. f (suc j))) (f 0) ∙ bit-bits n (λ j. f (suc j)) i (omega arith))

-- and no other bit is set
pub bit-beyond : (n : ℕ) (f : ℕ → Bool) (i : ℕ) → n ≤ i → bit i (bits n f) ≡ false
unfolding bits
bit-beyond zero f i h = bit-none i
bit-beyond (suc n) f zero h = absurd (omega arith)
bit-beyond (suc n) f (suc i) h =
    rw (bits-shift n f) (bit-suc i (bits n (λ j. f (suc j))) (f 0) ∙ bit-beyond n (λ j. f (suc j)) i (omega arith))

-- tests that agree below n make one number
pub bits-same : (n : ℕ) (f g : ℕ → Bool) → ((i : ℕ) → i < n → f i ≡ g i) → bits n f ≡ bits n g
unfolding bits
bits-same zero f g h = refl
bits-same (suc n) f g h = rw (h n (omega arith), bits-same n f g (λ i k. h i (omega arith)))

pub any_below-same : (n : ℕ) (f g : ℕ → Bool) → ((i : ℕ) → i < n → f i ≡ g i) → any_below n f ≡ any_below n g
unfolding any_below
any_below-same zero f g h = refl
any_below-same (suc n) f g h = rw (h n (omega arith), any_below-same n f g (λ i k. h i (omega arith)))

-- the number is not 0 exactly where some bit is set
pub bits-some : (n : ℕ) (f : ℕ → Bool) → not (eqb (bits n f) 0) ≡ any_below n f
unfolding bits any_below
bits-some zero f = refl
bits-some (suc n) f = go (f n) (any_below n f) (bits-some n f)
  where
    go : (b a : Bool) → not (eqb (bits n f) 0) ≡ a → not (eqb (bits n f + cond b (2 ^ n) 0) 0) ≡ a || b
    go true true h = rw (ne_eqb (bits n f + 2 ^ n) 0 (λ e. omega (arith, pow_pos n)))
    go true false h = rw (ne_eqb (bits n f + 2 ^ n) 0 (λ e. omega (arith, pow_pos n)))
    go false true h = let e : bits n f + 0 ≡ bits n f = omega arith in rw e h
    go false false h = let e : bits n f + 0 ≡ bits n f = omega arith in rw e h

-- one of them passes, so some does
pub any_below-at : (n : ℕ) (f : ℕ → Bool) (i : ℕ) → i < n → f i ≡ true → any_below n f ≡ true
unfolding any_below
any_below-at zero f i h e = absurd (omega arith)
any_below-at (suc n) f i h e = go (λ k. any_below-at n f i k e) (dec_lt i n)
  where
    go : (i < n → any_below n f ≡ true) → Dec (i < n) → any_below n f || f n ≡ true
    go ih (yes k) = rw (ih k)
    go ih (no k) = let s : i ≡ n = omega arith in rw (← s, e) (or-true (any_below i f))

-- what passes two tests somewhere passes the first somewhere
pub any_below-both : (n : ℕ) (f g : ℕ → Bool) → any_below n f && any_below n (λ i. f i && g i) ≡ any_below n (λ i. f i && g i)
unfolding any_below
any_below-both zero f g = refl
any_below-both (suc n) f g = go (any_below n f) (any_below n (λ i. f i && g i)) (f n) (g n) (any_below-both n f g)
  where
    go : (a b c d : Bool) → a && b ≡ b → (a || c) && (b || (c && d)) ≡ b || (c && d)
    go true b c d h = refl
    go false true c d h = cc
    go false false true d h = refl
    go false false false d h = refl

-- a test that is the same everywhere may be asked once
pub any_below-and : (n : ℕ) (f : ℕ → Bool) (b : Bool) → any_below n (λ i. f i && b) ≡ any_below n f && b
unfolding any_below
any_below-and zero f b = refl
any_below-and (suc n) f b = rw (any_below-and n f b) (go (any_below n f) (f n) b)
  where
    go : (a c d : Bool) → (a && d) || (c && d) ≡ (a || c) && d
    go true c true = refl
    go true true false = refl
    go true false false = refl
    go false c d = refl
