-- Names as lists of bytes, and two of them compared: by length first, then byte by byte.
-- Assumes nothing.
use Prim.Native.Nat.{ℕ, ◌+◌, ◌-◌, ◌≤◌, ◌<◌}
use native.Mathlib.Omega.{arith}
use mathlib.Core.Path.{◌≡◌, refl, sym, ap, ap₂, ◌∙◌}
use mathlib.Core.Bool.{Bool, true, false}
use mathlib.Core.List.{List}
use borrow.Author.Tests.{ne_eqb}
use lib.ListN.{length, get_or, drop, length-drop}
use lib.Seq.{get_or-drop}
use lib.Dec.{eqb}
use Rattle.std.specs.List.{slice_get}
use Rattle.words.specs.Lists.{all_below, tab, same_list}
use Rattle.words.specs.Bytes.{part}
use Rattle.word_laws.proofs.Lists.{tab-get_d, tab-cong}
use Rattle.word_laws.proofs.Tests.{all_below-fails}
use Rattle.word_laws.proofs.Same.{same-eq, same-tabs}
use Rattle.word_laws.proofs.Parts.{part-whole}

-- a part is the list of its bytes
pub part-by-index : (s : List ℕ) (at n : ℕ) → at + n ≤ length s → tab (λ i. get_or s (at + i) 0) 0 n ≡ part s at n
part-by-index s at n h =
    tab-cong (λ i. get_or s (at + i) 0) (λ i. get_or (drop at s) i 0) 0 n (λ i lo hi. sym (get_or-drop at s i 0))
    ∙ tab-get_d (drop at s) 0 0 n (rw length-drop (omega arith))

-- byte i of the one and of the other
abbrev pub same_at : List ℕ → List ℕ → ℕ → Bool
same_at a b i = eqb (get_or a i 0) (get_or b i 0)

by-index : (s : List ℕ) (n : ℕ) → length s ≡ n → tab (λ i. get_or s i 0) 0 n ≡ s
by-index s n e = tab-get_d s 0 0 n (omega arith) ∙ part-whole s n e

module _ (a b : List ℕ) where
  -- of one length they are the same where each byte is
  pub same_lists : (n : ℕ) → length a ≡ n → length b ≡ n → same_list a b ≡ all_below n (same_at a b)
  same_lists n h k = ap₂ same_list (sym (by-index a n h)) (sym (by-index b n k)) ∙ same-tabs (λ i. get_or a i 0) (λ i. get_or b i 0) n

  -- what differs in anything is not the same
  apart_by : {A : Type 0} (f : List ℕ → A) → (f a ≡ f b → ⊥) → same_list a b ≡ false
  apart_by f differ = go (same_list a b) refl
    where
      go : (t : Bool) → same_list a b ≡ t → t ≡ false
      go true e = absurd (differ (ap f (same-eq a b e)))
      go false e = refl

  pub other_length : (length a ≡ length b → ⊥) → same_list a b ≡ false
  other_length = apart_by length

  pub other_last : (slice_get a (length a - 1) ≡ slice_get b (length b - 1) → ⊥) → same_list a b ≡ false
  other_last = apart_by (λ (s : List ℕ). slice_get s (length s - 1))

-- ---- parts of byte strings

module _ (a b : List ℕ) (at from : ℕ) where
  -- parts of one length are the same where each byte is
  pub same_parts : (n : ℕ) → at + n ≤ length a → from + n ≤ length b
      → same_list (part a at n) (part b from n) ≡ all_below n (λ i. eqb (get_or a (at + i) 0) (get_or b (from + i) 0))
  same_parts n h k =
      ap₂ same_list (sym (part-by-index a at n h)) (sym (part-by-index b from n k))
      ∙ same-tabs (λ i. get_or a (at + i) 0) (λ i. get_or b (from + i) 0) n

  -- parts of no byte are
  pub no_bytes : (n : ℕ) → n ≡ 0 → true ≡ same_list (part a at n) (part b from n)
  unfolding same_list
  no_bytes n e = rw e

  -- parts that differ in a byte are not
  pub other_byte : (n : ℕ) → at + n ≤ length a → from + n ≤ length b → (i : ℕ) → i < n → (get_or a (at + i) 0 ≡ get_or b (from + i) 0 → ⊥)
      → false ≡ same_list (part a at n) (part b from n)
  other_byte n h k i below differ =
      all_below-fails n i (λ j. eqb (get_or a (at + j) 0) (get_or b (from + j) 0)) below (ne_eqb _ _ differ) ∙ sym (same_parts n h k)
