-- Fields of a byte string: what was written as 2 or 4 bytes, or as zeros, is read back, and what is read is what is written.
-- Assumes nothing.
use Prim.Native.Nat.{ℕ, zero, suc, ◌+◌, ◌-◌, ◌*◌, ◌/◌, ◌%◌, ◌≤◌, ◌<◌}
use native.Mathlib.Nat.{add_assoc, div-div-eq-div-mul}
use native.Mathlib.Numerals.{add-one, add-two, add-three}
use native.Mathlib.Omega.{arith}
use mathlib.Core.Path.{◌≡◌, refl, sym, ap, ap₂, ◌∙◌}
use mathlib.Core.Bool.{true}
use mathlib.Core.List.{List, [], ◌∷◌, ◌++◌, append_assoc}
use lib.ListN.{length, get_or, length-replicate, get_or-replicate, get_or-append}
use lib.Seq.{get_or-append-add}
use lib.Dec.{eqb}
use borrow.Author.Tests.{eq-eqb, eqb-true}
use Rattle.words.specs.Lists.{tab}
use Rattle.words.specs.Bytes.{u16_at, u32_at, bytes2, bytes4, zeros, part, zero_from}
use Rattle.word_laws.proofs.Every.{Every, every-get_d}
use Rattle.word_laws.proofs.Lists.{tab-get_d, tab-cong}
use Rattle.word_laws.proofs.Tests.{all_below-true, all_below-at}

-- a byte
abbrev pub Byte : ℕ → Type 0
Byte x = x < 256

-- ---- behind a front of known length

pub get_d_past : {A : Type 0} (p q : List A) (n i : ℕ) (d : A) → length p ≡ n → get_or (p ++ q) (n + i) d ≡ get_or q i d
get_d_past p q n i d e = rw (← e) (get_or-append-add p q i d)

pub u32_at-past : (p q : List ℕ) (n i : ℕ) → length p ≡ n → u32_at (p ++ q) (n + i) ≡ u32_at q i
u32_at-past p q n i e =
    rw (add_assoc n i 1, add_assoc n i 2, add_assoc n i 3)
    (rw (get_d_past p q n i 0 e, get_d_past p q n (i + 1) 0 e, get_d_past p q n (i + 2) 0 e, get_d_past p q n (i + 3) 0 e))

-- ---- numbers

pub read2 : (x : ℕ) → x < 65536 → u16_at (bytes2 x) 0 ≡ x
read2 x h = omega arith

-- a number in base 256
base256 : (x y z u : ℕ) → y ≡ x / 256 → z ≡ y / 256 → u ≡ z / 256 → u < 256
    → x % 256 + 256 * (y % 256) + 65536 * (z % 256) + 16777216 * (u % 256) ≡ x
base256 x y z u p q r h = omega arith

pub read4 : (x : ℕ) → x < 4294967296 → u32_at (bytes4 x) 0 ≡ x
read4 x h =
    base256 x (x / 256) (x / 65536) (x / 16777216) refl
    (sym (div-div-eq-div-mul x 256 256)) (sym (div-div-eq-div-mul x 65536 256)) (omega arith)

-- the bytes of a number, and the number of bytes
write2 : (a b : ℕ) → Byte a → Byte b → bytes2 (a + 256 * b) ≡ a ∷ b ∷ []
write2 a b ha hb = ap₂ {C = List ℕ} (λ x y. x ∷ y ∷ []) (omega arith) (omega arith)

write4 : (a b c d : ℕ) → Byte a → Byte b → Byte c → Byte d → bytes4 (a + 256 * b + 65536 * c + 16777216 * d) ≡ a ∷ b ∷ c ∷ d ∷ []
write4 a b c d ha hb hc hd =
    ap₂ {C = List ℕ} (λ x r. x ∷ r) (omega arith)
    (ap₂ {C = List ℕ} (λ x r. x ∷ r) (omega arith)
    (ap₂ {C = List ℕ} (λ x y. x ∷ y ∷ []) (omega arith) (omega arith)))

module _ (s : List ℕ) (bytes : Every Byte s) where
  byte : (i : ℕ) → i < length s → Byte (get_or s i 0)
  byte i h = every-get_d 0 i bytes h

  pub bytes2-u16_at : (i : ℕ) → i + 2 ≤ length s → bytes2 (u16_at s i) ≡ part s i 2
  unfolding tab
  bytes2-u16_at i h =
      write2 (get_or s i 0) (get_or s (i + 1) 0) (byte i (omega arith)) (byte (i + 1) (omega arith)) ∙ rw add-one (tab-get_d s 0 i 2 h)

  pub bytes4-u32_at : (i : ℕ) → i + 4 ≤ length s → bytes4 (u32_at s i) ≡ part s i 4
  unfolding tab
  bytes4-u32_at i h =
      write4 (get_or s i 0) (get_or s (i + 1) 0) (get_or s (i + 2) 0) (get_or s (i + 3) 0)
      (byte i (omega arith)) (byte (i + 1) (omega arith)) (byte (i + 2) (omega arith)) (byte (i + 3) (omega arith))
      ∙ rw (add-one, add-two, add-three) (tab-get_d s 0 i 4 h)

  pub u32_at-below : (i : ℕ) → i + 4 ≤ length s → u32_at s i < 4294967296
  u32_at-below i h =
      omega (arith, byte i (omega arith), byte (i + 1) (omega arith), byte (i + 2) (omega arith), byte (i + 3) (omega arith))

-- ---- zeros

pub zeros-read : (p q : List ℕ) (at n : ℕ) → length p ≡ at → zero_from (p ++ zeros n ++ q) at n ≡ true
unfolding zero_from
zeros-read p q at n e =
    all_below-true n (λ i. eqb (get_or (p ++ zeros n ++ q) (at + i) 0) 0) (λ i h. eq-eqb (get_or (p ++ zeros n ++ q) (at + i) 0) 0 (zero-at i h))
  where
    zero-at : (i : ℕ) → i < n → get_or (p ++ zeros n ++ q) (at + i) 0 ≡ 0
    zero-at i h =
        rw (append_assoc, get_d_past p (zeros n ++ q) at i 0 e)
        (get_or-append (zeros n) q 0 i (rw length-replicate h) ∙ get_or-replicate n i 0 0 h)

tab-zero : (k n : ℕ) → tab (λ i. 0) k n ≡ zeros n
unfolding tab
tab-zero k zero = refl
tab-zero k (suc n) = ap {B = List ℕ} (λ r. 0 ∷ r) (tab-zero (suc k) n)

pub read-zeros : (s : List ℕ) (at n : ℕ) → zero_from s at n ≡ true → at + n ≤ length s → zeros n ≡ part s at n
unfolding zero_from
read-zeros s at n z h =
    sym (tab-zero at n)
    ∙ tab-cong (λ i. 0) (λ i. get_or s i 0) at n (λ i lo hi. sym (zero-at i lo hi))
    ∙ tab-get_d s 0 at n h
  where
    zero-at : (i : ℕ) → at ≤ i → i < at + n → get_or s i 0 ≡ 0
    zero-at i lo hi =
        let e : at + (i - at) ≡ i = omega arith in
        rw e at (eqb-true (get_or s (at + (i - at)) 0) 0 (all_below-at n (i - at) (λ j. eqb (get_or s (at + j) 0) 0) z (omega arith)))
