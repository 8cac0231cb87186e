-- Every number is the number of some image's permission blocks. So what holds beside every image holds of a text and its rules alone.
-- Assumes nothing.
use Prim.Native.Nat.{ℕ, zero, suc, ◌-◌, ◌*◌}
use native.Mathlib.Omega.{arith}
use mathlib.Core.Path.{◌≡◌, refl, ◌∙◌}
use mathlib.Core.Bool.{cond}
use mathlib.Core.List.{List}
use lib.ListN.{get_or, length-replicate}
use lib.Dec.{eqb}
use Rattle.words.specs.Lists.{sum_below}
use Rattle.words.specs.Bytes.{zeros}
use Rattle.word_laws.proofs.Parts.{u32_at-part}
use Rattle.format.specs.Layout.{block_bytes, rule_kind}
use Rattle.format.specs.Block.{blocks, block, kind}
use Rattle.format.specs.Policy.{rule_count}

-- p blocks of zeros
abbrev pub blanks : ℕ → List ℕ
blanks p = zeros (block_bytes * p)

zero-byte : (n i : ℕ) → get_or (zeros n) i 0 ≡ 0
zero-byte zero i = refl
zero-byte (suc n) zero = refl
zero-byte (suc n) (suc i) = zero-byte n i

zero-kind : (p k : ℕ) → kind (block (blanks p) k) ≡ 0
zero-kind p k = u32_at-part (blanks p) (block_bytes * k) block_bytes 0 (omega arith) ∙ simp (zero-byte (block_bytes * p))

-- none of them is a rule
no-rules : (p : ℕ) → rule_count (blanks p) ≡ 0
unfolding rule_count sum_below
no-rules p = go (blocks (blanks p))
  where
    go : (n : ℕ) → sum_below n (λ k. cond (eqb (kind (block (blanks p) k)) rule_kind) 1 0) ≡ 0
    go zero = refl
    go (suc n) = rw (go n, zero-kind p n)

-- so there are p others
pub blank-permissions : (p : ℕ) → p ≡ blocks (blanks p) - rule_count (blanks p)
blank-permissions p = rw (no-rules p, length-replicate {A = ℕ} (block_bytes * p) 0) (omega arith)
