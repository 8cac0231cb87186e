-- A permission block with no fault has none under any number: its check as such reads the bytes from 8 to the check alone.
-- Assumes nothing.
use Prim.Native.Nat.{ℕ, ◌+◌, ◌-◌, ◌*◌, ◌≤◌, ◌<◌}
use native.Mathlib.Omega.{arith}
use mathlib.Core.Path.{◌≡◌, ap, ap₂, ◌∙◌}
use mathlib.Core.List.{List}
use mathlib.Core.Option.{none}
use lib.ListN.{get_or}
use lib.Dec.{eqb, leb}
use borrow.Author.Tests.{leb-true}
use Rattle.words.specs.First.{unless}
use Rattle.words.specs.Bytes.{u16_at, zero_from}
use Rattle.word_laws.proofs.First.{unless-passes, passes-unless, or_else-none, none_first, none-second, none-at, first-none}
use Rattle.word_laws.proofs.Tests.{all_below-same}
use Rattle.format.specs.Answer.{refusal}
use Rattle.format.specs.Layout.{check_at, most_entries, entries_at, entry_bytes, entries_bytes, spare_at, spare_bytes}
use Rattle.format.specs.Policy.{entries, permission_at, good_permission, good_permission_bytes, permission_fault}
use Rattle.xml_laws.proofs.BlockAccepted.{three}

module _ (a b : List ℕ) (same : (i : ℕ) → 8 ≤ i → i < check_at → get_or a i 0 ≡ get_or b i 0) where
  u16-same : (i : ℕ) → 8 ≤ i → i + 1 < check_at → u16_at a i ≡ u16_at b i
  u16-same i lo hi = ap₂ (λ (x y : ℕ). x + 256 * y) (same i lo (omega arith)) (same (i + 1) (omega arith) hi)

  zero_same : (at n : ℕ) → 8 ≤ at → at + n ≤ check_at → zero_from a at n ≡ zero_from b at n
  unfolding zero_from
  zero_same at n lo hi =
      all_below-same n (λ i. eqb (get_or a (at + i) 0) 0) (λ i. eqb (get_or b (at + i) 0) 0) (λ i h. rw (same (at + i) (omega arith) (omega arith)))

  entry-same : (i : ℕ) → i < most_entries → permission_at a i ≡ permission_at b i
  entry-same i h =
      rw (
        u16-same (16 + 8 * i) (omega arith) (omega arith),
        u16-same (18 + 8 * i) (omega arith) (omega arith),
        u16-same (20 + 8 * i) (omega arith) (omega arith),
        u16-same (22 + 8 * i) (omega arith) (omega arith),
      )

  -- what acceptance says of the number of entries
  few-entries : (k : ℕ) → permission_fault k b ≡ none → entries b ≤ most_entries
  unfolding permission_fault good_permission_bytes
  few-entries k h =
      leb-true (entries b) most_entries
      (three (leb (entries b) most_entries) (zero_from b spare_at spare_bytes)
      (zero_from b (entries_at + entry_bytes * entries b) (entries_bytes - entry_bytes * entries b))
      (passes-unless _ _ (none_first _ _ h))).0

  bytes_same : entries b ≤ most_entries → good_permission_bytes a ≡ good_permission_bytes b
  unfolding good_permission_bytes
  bytes_same few =
      rw (
        u16-same 8 (omega arith) (omega arith),
        zero_same spare_at spare_bytes (omega arith) (omega arith),
        zero_same (entries_at + entry_bytes * entries b) (entries_bytes - entry_bytes * entries b) (omega arith) (omega arith),
      )

  -- so one is faultless as a permission block where the other is, whatever their numbers
  pub permission-same : (j k : ℕ) → permission_fault j b ≡ none → permission_fault k a ≡ none
  unfolding permission_fault
  permission-same j k h =
      let few = few-entries j h in
      or_else-none (unless-passes (refusal 6 k 0) (bytes_same few ∙ passes-unless _ _ (none_first _ _ h)))
      (rw (u16-same 8 (omega arith) (omega arith))
      (first-none (λ i. unless (good_permission (permission_at a i)) (refusal 6 k (i + 1))) 0 (entries b)
      (λ i lo hi.
      unless-passes (refusal 6 k (i + 1))
      (ap good_permission (entry-same i (omega arith)) ∙ passes-unless _ _ (none-at _ 0 (entries b) i (none-second _ _ h) lo hi)))))
