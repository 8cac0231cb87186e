-- Marks for rules that there are, all at once: by the highest of them.
-- Assumes nothing.
use Prim.Native.Nat.{ℕ, zero, suc, ◌+◌, ◌-◌, ◌^◌, ◌≤◌, ◌<◌}
use native.Mathlib.Decide.{dec_lt}
use native.Mathlib.Omega.{arith}
use mathlib.Core.Path.{◌≡◌, refl, sym, ap, ◌∙◌}
use mathlib.Core.Bool.{Bool, true, false, not, ◌||◌}
use borrow.Author.Tests.{lt-ltb, ltb-true, le-leb, lt-leb}
use lib.Count.{count_leading_zeros, leading_of_zero, leading_top}
use lib.Dec.{leb, ltb}
use lib.Pow.{pow_mono, pow_pos}
use Rattle.words.specs.Bytes.{bit, bits}
use Rattle.word_laws.proofs.Bits.{bits_below, bit-bits, bit-beyond}
use Rattle.word_laws.proofs.BitLaws.{bits_of, same_bits}
use Rattle.word_laws.proofs.Tests.{all_below-true, all_below-at}
use Rattle.rule_tests.specs.Shapes.{marks_within}

module _ (rules marks : ℕ) where
  -- marks that are all below the number of rules are for rules
  below : marks < 2 ^ rules → true ≡ marks_within rules marks
  unfolding marks_within
  below h = sym (all_below-true 32 _ (λ i l. go i (dec_lt i rules)))
    where
      or_yes : (b : Bool) → not b || true ≡ true
      or_yes true = refl
      or_yes false = refl

      go : (i : ℕ) → Dec (i < rules) → not (bit i marks) || ltb i rules ≡ true
      go i (yes l) = rw (lt-ltb i rules l) (or_yes (bit i marks))
      go i (no l) =
          let none = ap (bit i) (bits_of rules marks h) ∙ bit-beyond rules (λ j. bit j marks) i (omega arith) in
          rw none

  -- a number whose marks are all for rules is made of these marks
  made : rules ≤ 32 → marks < 2 ^ 32 → marks_within rules marks ≡ true → marks ≡ bits rules (λ i. bit i marks)
  unfolding marks_within
  made few long all =
      same_bits 32 marks (bits rules (λ i. bit i marks)) long (omega (arith, bits_below rules (λ i. bit i marks), pow_mono {i = rules} {j = 32} few)) (λ i l. go i (dec_lt i rules) (all_below-at 32 i _ all l))
    where
      none : (i : ℕ) (b : Bool) → not b || ltb i rules ≡ true → (i < rules → ⊥) → b ≡ false
      none i true t h = absurd (h (ltb-true i rules t))
      none i false t h = refl

      go : (i : ℕ) → Dec (i < rules) → not (bit i marks) || ltb i rules ≡ true → bit i marks ≡ bit i (bits rules (λ j. bit j marks))
      go i (yes h) t = sym (bit-bits rules (λ j. bit j marks) i h)
      go i (no h) t = none i (bit i marks) t h ∙ sym (bit-beyond rules (λ j. bit j marks) i (omega arith))

  above : rules ≤ 32 → marks < 2 ^ 32 → 2 ^ rules ≤ marks → false ≡ marks_within rules marks
  above few long some = go (marks_within rules marks) refl
    where
      go : (b : Bool) → marks_within rules marks ≡ b → false ≡ b
      go true e = absurd (let less = rw (← made few long e) at (bits_below rules (λ i. bit i marks)) in omega arith)
      go false e = refl

-- below the highest mark there are as many places as it has zeros less than 32
pub within-is : (rules marks : ℕ) → marks < 2 ^ 32 → leb (32 - count_leading_zeros 32 marks) rules ≡ marks_within rules marks
within-is rules zero long = le-leb (32 - count_leading_zeros 32 0) rules (omega (arith, leading_of_zero 32)) ∙ below rules 0 (omega (arith, pow_pos rules))
within-is rules (suc marks) long = go (leading_top 32 (suc marks) (omega arith) long) (dec_lt rules (32 - count_leading_zeros 32 (suc marks)))
  where
    go :
        (j : ℕ) × (count_leading_zeros 32 (suc marks) + suc j ≡ 32) × (2 ^ j ≤ suc marks) × (suc marks < 2 ^ suc j) → Dec (rules < 32 - count_leading_zeros 32 (suc marks))
        → leb (32 - count_leading_zeros 32 (suc marks)) rules ≡ marks_within rules (suc marks)
    go top (yes h) =
        lt-leb (32 - count_leading_zeros 32 (suc marks)) rules h
        ∙ above rules (suc marks) (omega arith) long (omega (arith, top.2, pow_mono {i = rules} {j = top.0} (omega (arith, top.1))))
    go top (no h) =
        le-leb (32 - count_leading_zeros 32 (suc marks)) rules (omega arith)
        ∙ below rules (suc marks) (omega (arith, top.3, pow_mono {i = suc top.0} {j = rules} (omega (arith, top.1))))
