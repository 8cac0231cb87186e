-- A table that the check accepts is the image of the records that it says, which are good, fit their bytes, and are no more than it has places for.
-- Assumes nothing.
use Prim.Native.Nat.{ℕ, ◌*◌, ◌≤◌, ◌<◌}
use native.Mathlib.Nat.{zero-add}
use native.Mathlib.Omega.{arith}
use mathlib.Core.Path.{◌≡◌, refl, sym, ap, ◌∙◌}
use mathlib.Core.Bool.{Bool, true, false, ◌&&◌}
use mathlib.Core.List.{List, flatten}
use mathlib.Core.Option.{none}
use lib.ListN.{length, drop, length-drop}
use lib.Seq.{take_all, length-take-le}
use lib.Dec.{eqb, leb, ltb}
use borrow.Author.Tests.{eqb-true, leb-true, ltb-false}
use Rattle.words.specs.Lists.{tab, any_below}
use Rattle.words.specs.First.{first}
use Rattle.word_laws.proofs.Every.{Every, every_take, every_drop, every-tab, every-flatten}
use Rattle.word_laws.proofs.Lists.{length-tab, tab-cong, flatten-parts}
use Rattle.word_laws.proofs.Packed.{Packed, part-packed, length-packed}
use Rattle.word_laws.proofs.Bytes.{Byte}
use Rattle.word_laws.proofs.First.{passes-unless, none_first, none-second, none-at}
use Rattle.word_laws.proofs.Tests.{both_first, both-second, any_below-at}
use Rattle.format.specs.Answer.{refusal}
use Rattle.format.specs.Layout.{block_bytes, block_records, table_blocks, capacity}
use Rattle.format.specs.Block.{blocks, block, good_length}
use Rattle.format.specs.Policy.{policy_of, stamp}
use Rattle.format.specs.Table.{count, record_at, gap, good_record, table_block_fault, table_length_fault, table_fault, block_image, table_image, records_of}
use Rattle.format_laws.proofs.RecordImage.{Whole}
use Rattle.format_laws.proofs.TableImage.{chunk}
use Rattle.format_laws.proofs.BlockImage.{records_in}
use Rattle.format_laws.proofs.BlockRecords.{record-whole}
use Rattle.format_laws.proofs.AcceptedBlock.{Accepted, accepted-block, image-again}

-- the length of a good image
pub record Blocked (most : ℕ) (s : List ℕ) : Type 0 where
  pub whole-blocks : length s ≡ block_bytes * blocks s
  pub some_block : 1 ≤ blocks s
  pub not-over : blocks s ≤ most

pub blocked : (most : ℕ) (s : List ℕ) → good_length most s ≡ true → Blocked most s
unfolding good_length
blocked most s good =
    let a = eqb (block_bytes * blocks s) (length s) in
    let b = leb 1 (blocks s) in
    let c = leb (blocks s) most in
    let front = both_first (a && b) c good in
    record {
      whole-blocks = sym (eqb-true (block_bytes * blocks s) (length s) (both_first a b front));
      some_block = leb-true 1 (blocks s) (both-second a b front);
      not-over = leb-true (blocks s) most (both-second (a && b) c good);
    }

-- a block behind one that is not full has no record, unless there is a gap
pub behind-short : (s : List ℕ) (j k : ℕ) → gap s k ≡ false → j < k → count (block s j) < block_records → count (block s k) ≡ 0
unfolding gap
behind-short s j k no_gap lt short = go (eqb (count (block s k)) 0) refl
  where
    go : (x : Bool) → eqb (count (block s k)) 0 ≡ x → count (block s k) ≡ 0
    go true e = eqb-true (count (block s k)) 0 e
    go false e =
        let none-short : any_below k (λ i. ltb (count (block s i)) block_records) ≡ false = rw e at no_gap in
        absurd (omega (arith, ltb-false (count (block s j)) block_records (any_below-at k j (λ i. ltb (count (block s i)) block_records) none-short lt)))

-- the records that a table says, under a policy
pub record RecordsFit (policy s : List ℕ) : Type 0 where
  pub good : Every (λ r. good_record (policy_of policy) r ≡ true) (records_of s)
  pub whole : Every Whole (records_of s)
  pub fit : length (records_of s) ≤ capacity (blocks s)

module _ (policy s : List ℕ) (accepted : table_fault policy s ≡ none) where
  -- ---- its length

  length-accepted : good_length table_blocks s ≡ true
  unfolding table_fault table_length_fault
  length-accepted =
      passes-unless (good_length table_blocks s) (refusal 11 0 0)
      (none_first (table_length_fault s) (first (table_block_fault (policy_of policy) (stamp policy) s) 0 (blocks s)) accepted)

  pub accepted-length : Blocked table_blocks s
  accepted-length = blocked table_blocks s length-accepted

  -- ---- its blocks

  pub accepted-at : (k : ℕ) → k < blocks s → Accepted (policy_of policy) (stamp policy) s k
  unfolding table_fault
  accepted-at k h =
      accepted-block (policy_of policy) (stamp policy) s k
      (none-at (table_block_fault (policy_of policy) (stamp policy) s) 0 (blocks s) k
      (none-second (table_length_fault s) (first (table_block_fault (policy_of policy) (stamp policy) s) 0 (blocks s)) accepted) (omega arith) (omega arith))

  pub packed : Packed block_records (λ k. records_in (block s k)) 0 (blocks s)
  unfolding tab
  packed =
      record {
        narrow = λ k lo hi. rw length-tab (accepted-at k (omega arith)).header.few;
        full = λ j k lo lt hi short. rw (behind-short s j k (accepted-at k (omega arith)).header.no_gap lt (rw length-tab at short));
      }

  pub chunk-again : (k : ℕ) → k < blocks s → chunk (records_of s) k ≡ records_in (block s k)
  unfolding records_of
  chunk-again k h = part-packed block_records (λ j. records_in (block s j)) 0 (blocks s) k packed h ∙ ap (λ j. records_in (block s j)) (zero-add k)

  module _ (bytes : Every Byte s) where
    block-bytes : (k : ℕ) → Every Byte (block s k)
    block-bytes k = every_take block_bytes (every_drop (block_bytes * k) bytes)

    block-sized : (k : ℕ) → k < blocks s → length (block s k) ≡ block_bytes
    block-sized k h = length-take-le block_bytes (drop (block_bytes * k) s) (rw length-drop (omega (arith, accepted-length.whole-blocks)))

    block-again : (k : ℕ) → k < blocks s → block_image (stamp policy) (blocks s) k (chunk (records_of s) k) ≡ block s k
    block-again k h =
        let a = accepted-at k h in
        let d = a.header in
        rw (chunk-again k h)
        (image-again (block s k) (block-bytes k) (block-sized k h) d.few (stamp policy) (blocks s) k a.check d.kind-is d.number_is d.total-is
        d.spare a.stamp-a a.stamp-b d.places)

    image : table_image (stamp policy) (blocks s) (records_of s) ≡ s
    unfolding table_image
    image =
        ap flatten (tab-cong (λ k. block_image (stamp policy) (blocks s) k (chunk (records_of s) k)) (block s) 0 (blocks s) (λ k lo hi. block-again k (omega arith)))
        ∙ flatten-parts block_bytes s 0 (blocks s)
        ∙ take_all (block_bytes * blocks s) s (omega (arith, accepted-length.whole-blocks))

    records : RecordsFit policy s
    unfolding records_of
    records =
        record {
          good = every-flatten (every-tab (λ k. records_in (block s k)) 0 (blocks s)
              (λ k lo hi. every-tab (record_at (block s k)) 0 (count (block s k)) (λ i lo' hi'. (accepted-at k (omega arith)).records i (omega arith))));
          whole = every-flatten (every-tab (λ k. records_in (block s k)) 0 (blocks s)
              (λ k lo hi. every-tab (record_at (block s k)) 0 (count (block s k))
              (λ i lo' hi'. record-whole (block s k) (block-bytes k) (block-sized k (omega arith)) i (omega (arith, (accepted-at k (omega arith)).header.few)))));
          fit = length-packed block_records (λ k. records_in (block s k)) 0 (blocks s) packed;
        }

pub accepted-image : (policy s : List ℕ) → Every (λ x. x < 256) s → table_fault policy s ≡ none → table_image (stamp policy) (blocks s) (records_of s) ≡ s
accepted-image policy s bytes accepted = image policy s accepted bytes

pub accepted-records : (policy s : List ℕ) → Every (λ x. x < 256) s → table_fault policy s ≡ none → RecordsFit policy s
accepted-records policy s bytes accepted = records policy s accepted bytes
