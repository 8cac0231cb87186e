-- The lowest set bit of a number, and the number without it: a walk through the bits that are set, which tests each of them.
-- Assumes nothing.
use Prim.Native.Nat.{ℕ, zero, suc, ◌+◌, ◌-◌, ◌*◌, ◌/◌, ◌%◌, ◌^◌, ◌<◌, min}
use native.Mathlib.Nat.{pow-suc}
use native.Mathlib.Omega.{arith}
use mathlib.Core.Path.{◌≡◌, refl, sym, ap, ◌∙◌}
use mathlib.Core.Bool.{Bool, true, false, not, ◌&&◌, ◌||◌, and-true}
use borrow.Author.Tests.{eq-eqb, ne_eqb, eqb-true}
use lib.Bits.{bit_and, and_step, and_self}
use lib.Count.{count_trailing_zeros, under}
use lib.Dec.{eqb, eqb-suc-zero, eqb-suc-suc}
use Rattle.words.specs.Lists.{all_below}
use Rattle.words.specs.Bytes.{bit, bits}
use Rattle.word_laws.proofs.BitLaws.{bit-low, bit-half}
use Rattle.word_laws.proofs.Bits.{bit-beyond}
use Rattle.word_laws.proofs.Tests.{all_below-true, all_below-at, all_below-same}

-- ---- the lowest set bit

-- bit i is set in x, and y is x without it
pub record Lowest (x i y : ℕ) : Type 0 where
  pub set : bit i x ≡ true
  pub rest : (j : ℕ) → bit j y ≡ bit j x && not (eqb j i)

odd-bit : (x : ℕ) → x % 2 ≡ 1 → bit 0 x ≡ true
odd-bit x e = bit-low x ∙ eq-eqb (x % 2) 1 e

even-bit : (x : ℕ) → x % 2 ≡ 0 → bit 0 x ≡ false
even-bit x e = bit-low x ∙ ne_eqb (x % 2) 1 (λ h. omega arith)

module _ (x y : ℕ) (step : y ≡ bit_and (x / 2) ((x - 1) / 2) * 2 + min (x % 2) ((x - 1) % 2)) (some : x ≡ 0 → ⊥) where
  without-even : y % 2 ≡ 0
  without-even = omega arith

  -- an odd number: bit 0 goes
  odd : x % 2 ≡ 1 → Lowest x 0 y
  odd e = record { set = odd-bit x e; rest = at }
    where
      half : y / 2 ≡ x / 2
      half = let h : (x - 1) / 2 ≡ x / 2 = omega arith in omega (arith, rw (h, and_self (x / 2)) at step)

      at : (j : ℕ) → bit j y ≡ bit j x && not (eqb j 0)
      at zero = rw (even-bit y without-even, odd-bit x e)
      at (suc j) = rw (bit-half j y, half, bit-half j x, eqb-suc-zero j, and-true (bit j (x / 2)))

  -- an even one: what goes from its half
  even : (i : ℕ) → x % 2 ≡ 0 → Lowest (x / 2) i (bit_and (x / 2) (x / 2 - 1)) → Lowest x (suc i) y
  even i e l = record { set = bit-half i x ∙ l.set; rest = at }
    where
      half : y / 2 ≡ bit_and (x / 2) (x / 2 - 1)
      half = let h : (x - 1) / 2 ≡ x / 2 - 1 = omega arith in omega (arith, rw h at step)

      at : (j : ℕ) → bit j y ≡ bit j x && not (eqb j (suc i))
      at zero = rw (even-bit y without-even, even-bit x e)
      at (suc j) = rw (bit-half j y, half, bit-half j x, eqb-suc-suc j i) (l.rest j)

-- the zeros below it are its index
pub lowest : (k x : ℕ) → (x ≡ 0 → ⊥) → x < 2 ^ k → (count_trailing_zeros k x < k) × Lowest x (count_trailing_zeros k x) (bit_and x (x - 1))
unfolding count_trailing_zeros
lowest zero x some small = absurd (some (omega arith))
lowest (suc k) x some small = go (x % 2) refl (λ n. lowest k (x / 2) n (omega (arith, pow-suc 2 k)))
  where
    go : (r : ℕ) → x % 2 ≡ r → ((x / 2 ≡ 0 → ⊥) → (count_trailing_zeros k (x / 2) < k) × Lowest (x / 2) (count_trailing_zeros k (x / 2)) (bit_and (x / 2) (x / 2 - 1)))
        → (under r (count_trailing_zeros k (x / 2)) < suc k) × Lowest x (under r (count_trailing_zeros k (x / 2))) (bit_and x (x - 1))
    go zero e ih =
        let h = ih (λ n. some (omega arith)) in
        (omega (arith, h.0), even x (bit_and x (x - 1)) (and_step x (x - 1)) some (count_trailing_zeros k (x / 2)) e h.1)
    go (suc r) e ih = (omega arith, odd x (bit_and x (x - 1)) (and_step x (x - 1)) some (omega arith))

-- ---- the test of each bit that is set

abbrev pub all_set : ℕ → ℕ → (ℕ → Bool) → Bool
all_set n x t = all_below n (λ i. not (bit i x) || t i)

pub none-set : (n : ℕ) (t : ℕ → Bool) → all_set n 0 t ≡ true
unfolding bits
none-set n t = all_below-true n (λ i. not (bit i 0) || t i) (λ i h. rw (bit-beyond 0 (λ j. false) i (omega arith)))

module _ (n x i y : ℕ) (t : ℕ → Bool) (l : Lowest x i y) where
  pub lowest-fails : i < n → t i ≡ false → all_set n x t ≡ false
  lowest-fails below fails = go (all_set n x t) refl
    where
      go : (b : Bool) → all_set n x t ≡ b → b ≡ false
      go true e = sym (all_below-at n i (λ j. not (bit j x) || t j) e below) ∙ rw (l.set, fails)
      go false e = refl

  pub lowest-more : t i ≡ true → all_set n y t ≡ all_set n x t
  lowest-more passes = all_below-same n (λ j. not (bit j y) || t j) (λ j. not (bit j x) || t j) (λ j h. rw (l.rest j) (go j (eqb j i) refl (bit j x)))
    where
      go : (j : ℕ) (e : Bool) → eqb j i ≡ e → (b : Bool) → not (b && not e) || t j ≡ not b || t j
      go j true e true = sym (ap t (eqb-true j i e) ∙ passes)
      go j true e false = refl
      go j false e true = refl
      go j false e false = refl
