-- Numbers of bits that a loop adds up, and the bits of two numbers joined: of both, of either, of the one without the other's.
-- Assumes nothing.
use Prim.Native.Nat.{ℕ, zero, suc, ◌+◌, ◌-◌, ◌*◌, ◌/◌, ◌%◌, ◌^◌, ◌<◌, ◌≤◌, min, max}
use native.Mathlib.Nat.{pow-suc}
use native.Mathlib.Numerals.{add-one, one-add}
use native.Mathlib.Omega.{arith}
use mathlib.Core.Path.{◌≡◌, refl, sym, ap, ◌∙◌}
use mathlib.Core.Bool.{Bool, true, false, cond, not, ◌&&◌, ◌||◌}
use borrow.Author.Tests.{eqb-true, eqb-false, eq-eqb, ne_eqb}
use lib.Bits.{bit_and, bit_or, bit_xor, differ, and_step, or_step, xor_step, and_le_l, and_lt, or_lt}
use lib.Dec.{eqb, eqb-zero-suc, eqb-suc-zero, eqb-suc-suc}
use lib.Pow.{pow_mono, shr-shr}
use Rattle.words.specs.Bytes.{bit, bits}
use Rattle.word_laws.proofs.Bits.{bits_below, bits-shift, bit-none, bit-bits, bits-same}

-- ---- one bit after another

pub bits-start : (f : ℕ → Bool) → bits 0 f ≡ 0
unfolding bits
bits-start f = refl

pub bits-more :
    (i : ℕ) (f : ℕ → Bool) {x m : ℕ} {b : Bool} → x ≡ bits i f → b ≡ f i → m ≡ cond b (2 ^ i) 0 → x + m ≡ bits (i + 1) f
unfolding bits
bits-more i f e b d = rw (add-one i, e, d, b)

-- so many bits make a number of 32 bits
pub bits_fit : (n : ℕ) (f : ℕ → Bool) → n ≤ 32 → bits n f < 4294967296
bits_fit n f h = omega (arith, bits_below n f, pow_mono {i = n} {j = 32} h)

-- ---- one number: the lowest bit, and the others are those of the half

pub bit-low : (x : ℕ) → bit 0 x ≡ eqb (x % 2) 1
unfolding bit
bit-low x = let e : x / 2 ^ 0 ≡ x = omega arith in rw e

pub bit-half : (i x : ℕ) → bit (suc i) x ≡ bit i (x / 2)
unfolding bit
bit-half i x = ap (λ (z : ℕ). eqb (z % 2) 1) (ap (λ (k : ℕ). x / 2 ^ k) (sym (one-add i)) ∙ sym (shr-shr x 1 i))

-- a number of one bit
pub bit-power : (i k : ℕ) → bit i (2 ^ k) ≡ eqb i k
bit-power zero zero = bit-low 1
bit-power zero (suc k) = bit-low (2 ^ suc k) ∙ ne_eqb (2 ^ suc k % 2) 1 (λ e. omega (arith, pow-suc 2 k)) ∙ sym (eqb-zero-suc k)
bit-power (suc i) zero = bit-half i 1 ∙ bit-none i ∙ sym (eqb-suc-zero i)
bit-power (suc i) (suc k) =
    let e : 2 ^ suc k / 2 ≡ 2 ^ k = omega (arith, pow-suc 2 k) in
    bit-half i (2 ^ suc k) ∙ ap (bit i) e ∙ bit-power i k ∙ sym (eqb-suc-suc i k)

-- ---- two numbers, by their lowest bits and by their halves

module _
    (op : ℕ → ℕ → ℕ) (on : Bool → Bool → Bool) (low : (x y : ℕ) → eqb (op x y % 2) 1 ≡ on (eqb (x % 2) 1) (eqb (y % 2) 1))
    (half : (x y : ℕ) → op x y / 2 ≡ op (x / 2) (y / 2)) where
  bitwise : (i x y : ℕ) → bit i (op x y) ≡ on (bit i x) (bit i y)
  bitwise zero x y = rw (bit-low (op x y), bit-low x, bit-low y) (low x y)
  bitwise (suc i) x y = rw (bit-half i (op x y), bit-half i x, bit-half i y, half x y) (bitwise i (x / 2) (y / 2))

-- one bit of each of two numbers
low-both : (u v w : ℕ) → u < 2 → v < 2 → w ≡ min u v → eqb w 1 ≡ eqb u 1 && eqb v 1
low-both u v w hu hv e = go (eqb u 1) (eqb v 1) refl refl
  where
    go : (p q : Bool) → eqb u 1 ≡ p → eqb v 1 ≡ q → eqb w 1 ≡ p && q
    go true true f g = let x = eqb-true u 1 f in let y = eqb-true v 1 g in eq-eqb w 1 (omega arith)
    go true false f g = let y = eqb-false v 1 g in ne_eqb w 1 (λ h. y (omega arith))
    go false q f g = let x = eqb-false u 1 f in ne_eqb w 1 (λ h. x (omega arith))

low-either : (u v w : ℕ) → u < 2 → v < 2 → w ≡ max u v → eqb w 1 ≡ eqb u 1 || eqb v 1
low-either u v w hu hv e = go (eqb u 1) (eqb v 1) refl refl
  where
    go : (p q : Bool) → eqb u 1 ≡ p → eqb v 1 ≡ q → eqb w 1 ≡ p || q
    go true q f g = let x = eqb-true u 1 f in eq-eqb w 1 (omega arith)
    go false true f g = let x = eqb-true v 1 g in eq-eqb w 1 (omega arith)
    go false false f g = let x = eqb-false u 1 f in let y = eqb-false v 1 g in ne_eqb w 1 (λ h. omega arith)

low-less : (u v w : ℕ) → u < 2 → v < 2 → w ≡ u - min u v → eqb w 1 ≡ eqb u 1 && not (eqb v 1)
low-less u v w hu hv e = go (eqb u 1) (eqb v 1) refl refl
  where
    go : (p q : Bool) → eqb u 1 ≡ p → eqb v 1 ≡ q → eqb w 1 ≡ p && not q
    go true true f g = let x = eqb-true u 1 f in let y = eqb-true v 1 g in ne_eqb w 1 (λ h. omega arith)
    go true false f g = let x = eqb-true u 1 f in let y = eqb-false v 1 g in eq-eqb w 1 (omega arith)
    go false q f g = let x = eqb-false u 1 f in ne_eqb w 1 (λ h. x (omega arith))

low-differ : (u v w : ℕ) → u < 2 → v < 2 → w ≡ differ u v → eqb w 1 ≡ cond (eqb u 1) (not (eqb v 1)) (eqb v 1)
low-differ zero v w hu hv e = ap (λ (x : ℕ). eqb x 1) e
low-differ (suc zero) zero w hu hv e = ap (λ (x : ℕ). eqb x 1) e
low-differ (suc zero) (suc zero) w hu hv e = ap (λ (x : ℕ). eqb x 1) e
low-differ (suc zero) (suc (suc v)) w hu hv e = absurd (omega arith)
low-differ (suc (suc u)) v w hu hv e = absurd (omega arith)

pub bit-and : (i x y : ℕ) → bit i (bit_and x y) ≡ bit i x && bit i y
bit-and = bitwise bit_and ◌&&◌ (λ x y. low-both (x % 2) (y % 2) (bit_and x y % 2) (omega arith) (omega arith) (omega (arith, and_step x y))) (λ x y. omega (arith, and_step x y))

pub bit-or : (i x y : ℕ) → bit i (bit_or x y) ≡ bit i x || bit i y
bit-or = bitwise bit_or ◌||◌ (λ x y. low-either (x % 2) (y % 2) (bit_or x y % 2) (omega arith) (omega arith) (omega (arith, or_step x y))) (λ x y. omega (arith, or_step x y))

-- the bits that one of the two has and the other has not
pub bit-xor : (i x y : ℕ) → bit i (bit_xor x y) ≡ cond (bit i x) (not (bit i y)) (bit i y)
bit-xor =
    bitwise bit_xor (λ a b. cond a (not b) b)
    (λ x y. low-differ (x % 2) (y % 2) (bit_xor x y % 2) (omega arith) (omega arith) (low x y))
    (λ x y. let s = small (x % 2) (y % 2) (omega arith) (omega arith) in omega (arith, xor_step x y))
  where
    small : (u v : ℕ) → u < 2 → v < 2 → differ u v < 2
    small zero v hu hv = hv
    small (suc zero) zero hu hv = hu
    small (suc zero) (suc zero) hu hv = omega arith
    small (suc zero) (suc (suc v)) hu hv = absurd (omega arith)
    small (suc (suc u)) v hu hv = absurd (omega arith)

    low : (x y : ℕ) → bit_xor x y % 2 ≡ differ (x % 2) (y % 2)
    low x y = let s = small (x % 2) (y % 2) (omega arith) (omega arith) in omega (arith, xor_step x y)

-- the bits of the first that the second has not
pub bit-without : (i x y : ℕ) → bit i (x - bit_and x y) ≡ bit i x && not (bit i y)
bit-without =
    bitwise (λ x y. x - bit_and x y) (λ a b. a && not b)
    (λ x y. low-less (x % 2) (y % 2) ((x - bit_and x y) % 2) (omega arith) (omega arith) (omega (arith, and_step x y, and_le_l (x / 2) (y / 2))))
    (λ x y. omega (arith, and_step x y, and_le_l (x / 2) (y / 2)))

-- ---- a number is its bits

pub bits_of : (n x : ℕ) → x < 2 ^ n → x ≡ bits n (λ i. bit i x)
unfolding bits
bits_of zero x h = omega arith
bits_of (suc n) x h =
    rw (bits-shift n (λ i. bit i x), bits-same n (λ i. bit (suc i) x) (λ i. bit i (x / 2)) (λ i k. bit-half i x), ← bits_of n (x / 2) (half (2 ^ suc n) (2 ^ n) (pow-suc 2 n) h), bit-low x)
    (low (eqb (x % 2) 1) refl)
  where
    half : (y z : ℕ) → y ≡ z * 2 → x < y → x / 2 < z
    half y z e k = omega arith

    low : (b : Bool) → eqb (x % 2) 1 ≡ b → x ≡ x / 2 * 2 + cond b 1 0
    low true e = omega (arith, eqb-true (x % 2) 1 e)
    low false e = let f = eqb-false (x % 2) 1 e in omega arith

pub same_bits : (n x y : ℕ) → x < 2 ^ n → y < 2 ^ n → ((i : ℕ) → i < n → bit i x ≡ bit i y) → x ≡ y
same_bits n x y hx hy e = bits_of n x hx ∙ bits-same n (λ i. bit i x) (λ i. bit i y) e ∙ sym (bits_of n y hy)

below_power : (n : ℕ) → n < 2 ^ n
below_power zero = omega arith
below_power (suc n) = omega (arith, pow-suc 2 n, below_power n)

pub all-bits : (x y : ℕ) → ((i : ℕ) → bit i x ≡ bit i y) → x ≡ y
all-bits x y e =
    same_bits (x + y) x y (omega (arith, below_power x, pow_mono {i = x} {j = x + y} (omega arith)))
    (omega (arith, below_power y, pow_mono {i = y} {j = x + y} (omega arith))) (λ i h. e i)

-- sets are joined in any order, and what is taken away may be taken away part by part
pub or_assoc : (x y z : ℕ) → bit_or (bit_or x y) z ≡ bit_or x (bit_or y z)
or_assoc x y z =
    all-bits (bit_or (bit_or x y) z) (bit_or x (bit_or y z))
    (λ i. rw (bit-or i (bit_or x y) z, bit-or i x y, bit-or i x (bit_or y z), bit-or i y z) (go (bit i x) (bit i y) (bit i z)))
  where
    go : (a b c : Bool) → (a || b) || c ≡ a || (b || c)
    go true b c = refl
    go false b c = refl

pub without-or : (x y z : ℕ) → x - bit_and x (bit_or y z) ≡ (x - bit_and x z) - bit_and (x - bit_and x z) y
without-or x y z =
    all-bits (x - bit_and x (bit_or y z)) ((x - bit_and x z) - bit_and (x - bit_and x z) y)
    (λ i.
    rw (bit-without i x (bit_or y z), bit-or i y z, bit-without i (x - bit_and x z) y, bit-without i x z) (go (bit i x) (bit i y) (bit i z)))
  where
    go : (a b c : Bool) → a && not (b || c) ≡ (a && not c) && not b
    go true true true = refl
    go true true false = refl
    go true false true = refl
    go true false false = refl
    go false b c = refl

-- ---- numbers that were made from bits

pub bits_none : (n : ℕ) → bits n (λ i. false) ≡ 0
unfolding bits
bits_none zero = refl
bits_none (suc n) = rw (bits_none n)

module _ (n : ℕ) (f : ℕ → Bool) where
  -- those that any number has
  pub bits-with : (x : ℕ) → bit_and (bits n f) x ≡ bits n (λ i. f i && bit i x)
  bits-with x =
      same_bits n (bit_and (bits n f) x) (bits n (λ i. f i && bit i x)) (omega (arith, and_le_l (bits n f) x, bits_below n f)) (bits_below n (λ i. f i && bit i x))
      (λ i h. rw (bit-and i (bits n f) x, bit-bits n f i h, bit-bits n (λ j. f j && bit j x) i h))

  -- a test that does not look at the place
  pub bits-under : (b : Bool) → cond b 0 (bits n f) ≡ bits n (λ i. not b && f i)
  bits-under true = sym (bits_none n)
  bits-under false = refl

module _ (n : ℕ) (f g : ℕ → Bool) where
  pub bits-or : bit_or (bits n f) (bits n g) ≡ bits n (λ i. f i || g i)
  bits-or =
      same_bits n (bit_or (bits n f) (bits n g)) (bits n (λ i. f i || g i)) (or_lt n (bits n f) (bits n g) (bits_below n f) (bits_below n g)) (bits_below n (λ i. f i || g i))
      (λ i h. rw (bit-or i (bits n f) (bits n g), bit-bits n f i h, bit-bits n g i h, bit-bits n (λ j. f j || g j) i h))

  pub bits-and : bit_and (bits n f) (bits n g) ≡ bits n (λ i. f i && g i)
  bits-and =
      same_bits n (bit_and (bits n f) (bits n g)) (bits n (λ i. f i && g i)) (and_lt n (bits n f) (bits n g) (bits_below n f) (bits_below n g)) (bits_below n (λ i. f i && g i))
      (λ i h. rw (bit-and i (bits n f) (bits n g), bit-bits n f i h, bit-bits n g i h, bit-bits n (λ j. f j && g j) i h))

  pub bits-without : bits n f - bit_and (bits n f) (bits n g) ≡ bits n (λ i. f i && not (g i))
  bits-without =
      same_bits n (bits n f - bit_and (bits n f) (bits n g)) (bits n (λ i. f i && not (g i))) (omega (arith, bits_below n f)) (bits_below n (λ i. f i && not (g i)))
      (λ i h. rw (bit-without i (bits n f) (bits n g), bit-bits n f i h, bit-bits n g i h, bit-bits n (λ j. f j && not (g j)) i h))
