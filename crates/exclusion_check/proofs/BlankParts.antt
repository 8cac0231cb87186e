-- Parts of a rule block that are to be zero: an exclusion past their number, members past n. Each is a run of zero bytes, which
-- the code tests as one.
-- Assumes nothing.
use Prim.Native.Nat.{ℕ, ◌+◌, ◌-◌, ◌*◌, ◌≤◌}
use native.Mathlib.Omega.{arith}
use mathlib.Core.Path.{◌≡◌, sym, ap, ◌∙◌}
use mathlib.Core.Bool.{◌&&◌, ◌||◌}
use mathlib.Core.List.{List}
use lib.Dec.{ltb}
use Rattle.words.specs.Lists.{all_below}
use Rattle.words.specs.Bytes.{zero_from}
use Rattle.word_laws.proofs.Tests.{all_below-same}
use Rattle.word_laws.proofs.Zeros.{zero_from-add, zero-byte, zero_field, zero-parts, all_below-past}
use Rattle.format.specs.Rule.{privilege_at, blank_privilege, exclusion_at, blank_exclusion}

module _ (b : List ℕ) where
  blank-privilege : (at : ℕ) → blank_privilege (privilege_at b at) ≡ zero_from b at 4
  blank-privilege at = rw (zero_field b at, zero_field b (at + 2), ← zero_from-add b at 2 2)

  -- the members from a byte on are blank
  blank-from : (at n : ℕ) → all_below n (λ i. blank_privilege (privilege_at b (at + 4 * i))) ≡ zero_from b at (4 * n)
  blank-from at n =
      all_below-same n (λ i. blank_privilege (privilege_at b (at + 4 * i))) (λ i. zero_from b (at + 4 * i) 4) (λ i h. blank-privilege (at + 4 * i))
      ∙ zero-parts b at 4 n

  pub blank-exclusion : (e : ℕ) → zero_from b (56 + 36 * e) 36 ≡ blank_exclusion (exclusion_at b e)
  unfolding blank_exclusion
  blank-exclusion e =
      rw
      (zero-byte b (56 + 36 * e), zero-byte b (57 + 36 * e), zero-byte b (58 + 36 * e), zero-byte b (59 + 36 * e), blank-from (60 + 36 * e) 8)
      (go (56 + 36 * e) (57 + 36 * e) (58 + 36 * e) (59 + 36 * e) (60 + 36 * e) (omega arith) (omega arith) (omega arith) (omega arith))
    where
      go : (p q r s t : ℕ) → q ≡ p + 1 → r ≡ p + 2 → s ≡ p + 3 → t ≡ p + 4
          → zero_from b p 36 ≡ zero_from b p 1 && zero_from b q 1 && zero_from b r 1 && zero_from b s 1 && zero_from b t 32
      go p q r s t eq er es et =
          rw (eq, er, es, et, zero_from-add b p 4 32, zero_from-add b p 3 1, zero_from-add b p 2 1, zero_from-add b p 1 1)

  -- the members past n
  pub blank-members : (e n : ℕ) → n ≤ 8
      → zero_from b (60 + 36 * e + 4 * n) (32 - 4 * n) ≡ all_below 8 (λ i. ltb i n || blank_privilege ((exclusion_at b e).member i))
  blank-members e n h = go (8 - n) (omega arith)
    where
      go : (m : ℕ) → n + m ≡ 8
          → zero_from b (60 + 36 * e + 4 * n) (32 - 4 * n) ≡ all_below 8 (λ i. ltb i n || blank_privilege ((exclusion_at b e).member i))
      go m q =
          let w : 32 - 4 * n ≡ 4 * m = omega arith in
          rw (w, ← q)
          (sym
          (all_below-past n m (λ i. blank_privilege ((exclusion_at b e).member i))
          ∙ all_below-same m (λ i. blank_privilege (privilege_at b (60 + 36 * e + 4 * (n + i))))
          (λ i. blank_privilege (privilege_at b (60 + 36 * e + 4 * n + 4 * i)))
          (λ i l. ap (λ (p : ℕ). blank_privilege (privilege_at b p)) (omega arith))
          ∙ blank-from (60 + 36 * e + 4 * n) m))
