-- A level past the depth is to be zero: a run of zero bytes, which the code tests as one.
-- Assumes nothing.
use Prim.Native.Nat.{ℕ, ◌+◌, ◌*◌}
use native.Mathlib.Omega.{arith}
use mathlib.Core.Path.{◌≡◌}
use mathlib.Core.Bool.{◌&&◌}
use mathlib.Core.List.{List}
use Rattle.words.specs.Bytes.{zero_from}
use Rattle.word_laws.proofs.Zeros.{zero_from-add, zero-byte, zero_field}
use Rattle.format.specs.Rule.{level_at, blank_level}

pub blank-level : (b : List ℕ) (i : ℕ) → zero_from b (16 + 8 * i) 8 ≡ blank_level (level_at b i)
unfolding blank_level
blank-level b i =
    rw
    (zero_field b (16 + 8 * i), zero-byte b (18 + 8 * i), zero-byte b (19 + 8 * i), zero_field b (20 + 8 * i), zero_field b (22 + 8 * i))
    (go (16 + 8 * i) (18 + 8 * i) (19 + 8 * i) (20 + 8 * i) (22 + 8 * i) (omega arith) (omega arith) (omega arith) (omega arith))
  where
    go : (p q r s t : ℕ) → q ≡ p + 2 → r ≡ p + 3 → s ≡ p + 4 → t ≡ p + 6
        → zero_from b p 8 ≡ zero_from b p 2 && zero_from b q 1 && zero_from b r 1 && zero_from b s 2 && zero_from b t 2
    go p q r s t eq er es et =
        rw (eq, er, es, et, zero_from-add b p 6 2, zero_from-add b p 4 2, zero_from-add b p 3 1, zero_from-add b p 2 1)
