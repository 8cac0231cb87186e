-- Sets of blocks: none, one more, and a range more.
-- Assumes nothing.
use Prim.Native.Nat.{ℕ, ◌+◌, ◌-◌, ◌*◌, ◌%◌, ◌^◌, ◌<◌, ◌≤◌}
use native.Mathlib.Decide.{dec_lt}
use native.Mathlib.Omega.{arith}
use mathlib.Core.Path.{◌≡◌, refl, sym, ap, ◌∙◌}
use mathlib.Core.Bool.{Bool, true, false, cond, ◌&&◌, ◌||◌, false≢true}
use lib.Bits.{bit_or}
use lib.Dec.{eqb, leb, ltb}
use lib.Pow.{pow-lt}
use borrow.Author.Tests.{eq-eqb, ne_eqb, lt-ltb, le-ltb, le-leb, lt-leb, eqb-true, eqb-false}
use Rattle.words.specs.Bytes.{bit}
use Rattle.word_laws.proofs.Bits.{bit-none}
use Rattle.word_laws.proofs.BitLaws.{bit-or, bit-power}
use Rattle.word_laws.proofs.Tests.{neither-first, neither-second}
use Rattle.fields.specs.declared.blocks.BlockSet.{BlockSet}
use Rattle.fields.specs.Code.{has_block, no_block}

-- a set with no bit has no block
pub has-none : (set : BlockSet) (k : ℕ) → eqb set.0 0 ≡ true → has_block set k ≡ false
unfolding has_block
has-none set k h = rw (eqb-true set.0 0 h) (bit-none k)

pub no-block : (k : ℕ) → has_block no_block k ≡ false
no-block k = has-none no_block k refl

-- the number with one bit, as the code makes it
pub power : (k : ℕ) → k < 64 → 1 * 2 ^ k % 2 ^ 64 ≡ 2 ^ k
power k h = omega (arith, pow-lt {i = k} {j = 64} h)

power128 : (k : ℕ) → k < 128 → 1 * 2 ^ k % 2 ^ 128 ≡ 2 ^ k
power128 k h = omega (arith, pow-lt {i = k} {j = 128} h)

-- one block more
pub with-block : (x k i : ℕ) → k < 128 → has_block (record { 0 = bit_or x (1 * 2 ^ k % 2 ^ 128) }) i ≡ eqb i k || has_block (record { 0 = x }) i
unfolding has_block
with-block x k i h = rw (power128 k h, bit-or i x (2 ^ k), bit-power i k) (turn (bit i x) (eqb i k))
  where
    turn : (a b : Bool) → a || b ≡ b || a
    turn true true = refl
    turn true false = refl
    turn false true = refl
    turn false false = refl

-- a range more, one block after the other
pub range_none : (from i : ℕ) → leb from i && ltb i from ≡ false
range_none from i = go (dec_lt i from)
  where
    go : Dec (i < from) → leb from i && ltb i from ≡ false
    go (yes l) = rw (lt-leb from i l)
    go (no g) = rw (le-leb from i (omega arith), le-ltb i from (omega arith))

pub range-more : (from k i : ℕ) (b : Bool) → from ≤ k → eqb i k || ((leb from i && ltb i k) || b) ≡ (leb from i && ltb i (k + 1)) || b
range-more from k i b h = go (dec_lt i k) (dec_lt k i)
  where
    go : Dec (i < k) → Dec (k < i) → eqb i k || ((leb from i && ltb i k) || b) ≡ (leb from i && ltb i (k + 1)) || b
    go (yes l) d = rw (lt-ltb i k l, lt-ltb i (k + 1) (omega arith), ne_eqb i k (λ e. omega arith))
    go (no g) (yes m) = rw (ne_eqb i k (λ e. omega arith), le-ltb i k (omega arith), le-ltb i (k + 1) (omega arith))
    go (no g) (no d) = rw (eq-eqb i k (omega arith), le-leb from i (omega arith), lt-ltb i (k + 1) (omega arith))

pub in-range : (from to i : ℕ) (b : Bool) → from ≤ i → i < to → (leb from i && ltb i to) || b ≡ true
in-range from to i b lo hi = rw (le-leb from i lo, lt-ltb i to hi)

-- a block outside the set with a block, or with a range, is outside both
pub not-with : (set set' : BlockSet) (k i : ℕ) → has_block set' i ≡ eqb i k || has_block set i → has_block set' i ≡ false
    → (i ≡ k → ⊥) × (has_block set i ≡ false)
not-with set set' k i is off =
    let none = sym is ∙ off in
    (eqb-false i k (neither-first (eqb i k) (has_block set i) none), neither-second (eqb i k) (has_block set i) none)

pub not-range : (set set' : BlockSet) (from to i : ℕ) → has_block set' i ≡ (leb from i && ltb i to) || has_block set i → has_block set' i ≡ false
    → (from ≤ i → to ≤ i) × (has_block set i ≡ false)
not-range set set' from to i is off =
    let none = sym is ∙ off in
    (λ lo. go lo (dec_lt i to), neither-second (leb from i && ltb i to) (has_block set i) none)
  where
    go : from ≤ i → Dec (i < to) → to ≤ i
    go lo (yes hi) = absurd (false≢true (sym off ∙ is ∙ in-range from to i (has_block set i) lo hi))
    go lo (no g) = omega arith
