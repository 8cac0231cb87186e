-- Sets of rules as numbers: one rule more, as a loop goes through them, and the operations that find who judges, ends and gives.
-- Assumes nothing.
use Prim.Native.Nat.{ℕ, ◌+◌, ◌-◌, ◌^◌, ◌<◌}
use native.Mathlib.Omega.{arith}
use mathlib.Core.Path.{◌≡◌, refl}
use mathlib.Core.Bool.{Bool, true, false, cond, not, ◌&&◌, ◌||◌}
use lib.Bits.{bit_and, bit_or}
use Rattle.words.specs.Bytes.{bit, bits}
use Rattle.word_laws.proofs.Bits.{bits-same}
use Rattle.word_laws.proofs.BitLaws.{bits-more, bits_fit, bits-or, bits-and, bits-with, bits-without}
use Rattle.format.specs.Request.{Request}
use Rattle.format.specs.Rule.{is_set}
use Rattle.format.specs.Fits.{fits}
use Rattle.format.specs.Policy.{Policy}
use Rattle.judge.specs.Verdict.{is_first, is_last, judges}
use Rattle.judge.specs.NewTable.{ends, gives}
use Rattle.matching.specs.declared.rules.Matched.{Matched}
use Rattle.matching.specs.Sets.{fitting_in, starting_in, last_in, MatchedIs, judging_in}

-- a turn of a loop: with the flag of rule i the set is that of one rule more, and it is a number of 32 bits
pub bits-next :
    (i : ℕ) (f : ℕ → Bool) → i < 32 → {x m : ℕ} {b : Bool} → x ≡ bits i f → b ≡ f i → m ≡ cond b (2 ^ i) 0
    → (x + m ≡ bits (i + 1) f) × (x + m < 4294967296)
bits-next i f h e b d = let more = bits-more i f e b d in (more, omega (arith, more, bits_fit (i + 1) f (omega arith)))

-- ---- who judges, ends and gives

module _ (p : Policy) (q : Request) (m : Matched) (is : MatchedIs p q m) where
  pub judging-is : (x : ℕ) → bit_or m.starting.0 (bit_and m.fitting.0 x) ≡ judging_in p q (λ i. bit i x)
  unfolding fitting_in starting_in judging_in judges
  judging-is x =
      rw (is.starting-are, is.fitting-are)
      (rw (bits-with p.rules fit x, bits-or p.rules (λ i. fit i && start i) (λ i. fit i && bit i x))
      (bits-same p.rules (λ i. (fit i && start i) || (fit i && bit i x)) (λ i. fit i && (start i || bit i x)) (λ i h. turn (fit i) (start i) (bit i x))))
    where
      fit : ℕ → Bool
      fit i = fits (p.rule i) q

      start : ℕ → Bool
      start i = not (is_set (p.rule i).first_step) || is_first (p.rule i) q

      turn : (f s o : Bool) → (f && s) || (f && o) ≡ f && (s || o)
      turn true s o = refl
      turn false s o = refl

  module _ (open_run : ℕ → Bool) {j : ℕ} (e : j ≡ judging_in p q open_run) where
    pub ends-are : bit_and j m.last.0 ≡ bits p.rules (ends p q open_run)
    unfolding last_in judging_in ends
    ends-are =
        rw (e, is.last-are)
        (bits-and p.rules (λ i. judges (p.rule i) q (open_run i)) (λ i. is_last (p.rule i) q))

    pub gives-are : j - bit_and j m.last.0 ≡ bits p.rules (gives p q open_run)
    unfolding last_in judging_in gives
    gives-are =
        rw (e, is.last-are)
        (bits-without p.rules (λ i. judges (p.rule i) q (open_run i)) (λ i. is_last (p.rule i) q))
