-- The image of a table: its blocks are the images of its records fifteen at a time, it is read back as those records, and it passes the check of
-- a table under the policy whose stamp it has.
-- Assumes nothing.
use Prim.Native.Nat.{ℕ, ◌+◌, ◌-◌, ◌*◌, ◌≤◌, ◌<◌, min}
use native.Mathlib.Decide.{dec_lt}
use native.Mathlib.Omega.{arith}
use mathlib.Core.Path.{◌≡◌, refl, ap, ◌∙◌}
use mathlib.Core.Bool.{true, false, not, ◌&&◌, and-false}
use mathlib.Core.List.{List, flatten}
use mathlib.Core.Option.{none}
use lib.ListN.{length, take, drop, length-take, length-drop}
use lib.Seq.{take_all}
use lib.Dec.{eqb, ltb}
use borrow.Author.Tests.{eq-eqb, le-leb, le-ltb}
use Rattle.words.specs.Lists.{tab, any_below}
use Rattle.words.specs.Sums.{Sums, words}
use Rattle.words.specs.First.{unless}
use Rattle.word_laws.proofs.Every.{Every, every_take, every_drop, every-tab, every-get_d}
use Rattle.word_laws.proofs.Lists.{OfLength, length-tab, tab-cong, length-flatten, part-tab, flatten-parts}
use Rattle.word_laws.proofs.Tests.{any_below-false}
use Rattle.word_laws.proofs.First.{unless-passes, or_else-none, first-none}
use Rattle.word_laws.proofs.Sums.{Fit, sums-fit}
use Rattle.format.specs.Answer.{refusal}
use Rattle.format.specs.Policy.{Policy, policy_of, stamp}
use Rattle.format.specs.Layout.{block_bytes, block_records, capacity, table_blocks}
use Rattle.format.specs.Block.{blocks, block, good_length}
use Rattle.format.specs.Table.{Record, record_at, count, block_image, table_image, records_of, gap, good_record, good_table_header, table_block_fault, table_length_fault, table_fault}
use Rattle.format_laws.proofs.BlockImage.{records_in, block-length, records-read, kind-read, number_read, total-read, count-read, spare-read, unused-read, stamp-read, check-read, record-read, no_record}
pub use Rattle.format_laws.proofs.RecordImage.{Whole}

-- the records of block k
abbrev pub chunk : List Record → ℕ → List Record
chunk rs k = take block_records (drop (block_records * k) rs)

pub few : (rs : List Record) (k : ℕ) → length (chunk rs k) ≤ block_records
few rs k = rw length-take (omega arith)

-- where n records fill the places from the front, a block that has some stands behind full ones
filled : (n k : ℕ) (c : ℕ → ℕ) → ((j : ℕ) → j ≤ k → c j ≡ min block_records (n - block_records * j))
    → not (eqb (c k) 0) && any_below k (λ j. ltb (c j) block_records) ≡ false
filled n k c h = go (dec_lt (block_records * k) n)
  where
    go : Dec (block_records * k < n) → not (eqb (c k) 0) && any_below k (λ j. ltb (c j) block_records) ≡ false
    go (yes l) =
        rw (any_below-false k (λ j. ltb (c j) block_records) (λ j lt. le-ltb (c j) block_records (omega (arith, h j (omega arith)))))
        (and-false (not (eqb (c k) 0)))
    go (no g) = rw (eq-eqb (c k) 0 (omega (arith, h k (omega arith))))

module _ (t : Sums) (b : ℕ) (rs : List Record) (ws : Every Whole rs) where
  whole : (k : ℕ) → Every Whole (chunk rs k)
  whole k = every_take block_records (every_drop (block_records * k) ws)

  of_length : Every (OfLength block_bytes) (tab (λ k. block_image t b k (chunk rs k)) 0 b)
  of_length = every-tab (λ k. block_image t b k (chunk rs k)) 0 b (λ k lo hi. block-length t b k (chunk rs k) (few rs k) (whole k))

  pub image-length : length (table_image t b rs) ≡ block_bytes * b
  unfolding table_image
  image-length = length-flatten block_bytes of_length ∙ rw length-tab

  pub image-blocks : blocks (table_image t b rs) ≡ b
  image-blocks = rw image-length (omega arith)

  pub image-block : (k : ℕ) → k < b → block (table_image t b rs) k ≡ block_image t b k (chunk rs k)
  unfolding table_image
  image-block k h = part-tab block_bytes (λ j. block_image t b j (chunk rs j)) b k of_length h

  said : length rs ≤ capacity b → records_of (table_image t b rs) ≡ rs
  unfolding records_of
  said h =
      rw image-blocks
      (ap flatten (tab-cong (λ k. records_in (block (table_image t b rs) k)) (chunk rs) 0 b (λ k lo hi. in_block k (omega arith)))
      ∙ flatten-parts block_records rs 0 b
      ∙ take_all (block_records * b) rs h)
    where
      in_block : (k : ℕ) → k < b → records_in (block (table_image t b rs) k) ≡ chunk rs k
      in_block k h = rw (image-block k h) (records-read t b k (chunk rs k) (few rs k) (whole k))

  -- ---- the check

  length-passes : 1 ≤ b → b ≤ table_blocks → good_length table_blocks (table_image t b rs) ≡ true
  unfolding good_length
  length-passes low small = rw (image-blocks, image-length, eq-eqb (block_bytes * b) (block_bytes * b) refl, le-leb 1 b low, le-leb b table_blocks small)

  count_of : (k : ℕ) → k < b → count (block (table_image t b rs) k) ≡ length (chunk rs k)
  count_of k h = rw (image-block k h) (count-read t b k (chunk rs k) (few rs k))

  no_gap : (k : ℕ) → k < b → gap (table_image t b rs) k ≡ false
  unfolding gap
  no_gap k h = filled (length rs) k (λ j. count (block (table_image t b rs) j)) (λ j le. count_of j (omega arith) ∙ simp (length-take, length-drop))

  header-passes : (k : ℕ) → k < b → b ≤ table_blocks → good_table_header (table_image t b rs) k ≡ true
  unfolding good_table_header
  header-passes k h small =
      let rs' : List Record = chunk rs k in
      rw (no_gap k h, image-block k h, kind-read t b k rs', number_read t b k rs' (omega arith), total-read t b k rs' (omega arith), image-blocks)
      (rw (count-read t b k rs' (few rs k), spare-read t b k rs', unused-read t b k rs' (few rs k) (whole k))
      (rw (eq-eqb k k refl, eq-eqb b b refl, le-leb (length rs') block_records (few rs k))))

  module _ (p : Policy) (good : Every (λ r. good_record p r ≡ true) rs) where
    record-passes : (k i : ℕ) → k < b → i < count (block (table_image t b rs) k) → good_record p (record_at (block (table_image t b rs) k) i) ≡ true
    record-passes k i h hi =
        let hi' : i < length (chunk rs k) = rw (count_of k h) at hi in
        rw (image-block k h, record-read t b k (chunk rs k) (few rs k) (whole k) i no_record hi')
        (every-get_d no_record i (every_take block_records (every_drop (block_records * k) good)) hi')

    block-passes : (k : ℕ) → k < b → b ≤ table_blocks → Fit t → table_block_fault p t (table_image t b rs) k ≡ none
    unfolding table_block_fault
    block-passes k h small fit =
        or_else-none (unless-passes (refusal 12 k 0) (rw (image-block k h) (check-read t b k (chunk rs k) (few rs k) (whole k))))
        (or_else-none (unless-passes (refusal 13 k 0) (header-passes k h small))
        (or_else-none (unless-passes (refusal 14 k 0) (rw (image-block k h) (stamp-read t b k (chunk rs k) fit)))
        (first-none (λ i. unless (good_record p (record_at (block (table_image t b rs) k) i)) (refusal 15 k (i + 1))) 0 (count (block (table_image t b rs) k))
        (λ i lo hi. unless-passes (refusal 15 k (i + 1)) (record-passes k i h (omega arith))))))

pub stamp-fit : (policy : List ℕ) → Fit (stamp policy)
unfolding stamp
stamp-fit policy = sums-fit (words policy)

pub reads-back : (t : Sums) (b : ℕ) (rs : List Record) → b ≤ table_blocks → Every Whole rs → length rs ≤ capacity b → records_of (table_image t b rs) ≡ rs
reads-back t b rs small ws h = said t b rs ws h

pub passes : (policy : List ℕ) (b : ℕ) (rs : List Record) → 1 ≤ b → b ≤ table_blocks → Every Whole rs → length rs ≤ capacity b
    → Every (λ r. good_record (policy_of policy) r ≡ true) rs → table_fault policy (table_image (stamp policy) b rs) ≡ none
unfolding table_fault table_length_fault
passes policy b rs low small ws h good =
    or_else-none (unless-passes (refusal 11 0 0) (length-passes (stamp policy) b rs ws low small))
    (rw (image-blocks (stamp policy) b rs ws)
    (first-none (table_block_fault (policy_of policy) (stamp policy) (table_image (stamp policy) b rs)) 0 b
    (λ k lo hi. block-passes (stamp policy) b rs ws (policy_of policy) good k (omega arith) small (stamp-fit policy))))
