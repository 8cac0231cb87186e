-- What the check of a table has found of a block that it accepts, and that such a block is the image of its records.
-- Assumes nothing.
use Prim.Native.Nat.{ℕ, ◌+◌, ◌-◌, ◌*◌, ◌≤◌, ◌<◌}
use native.Mathlib.Omega.{arith}
use mathlib.Core.Path.{◌≡◌, sym, ap, ◌∙◌}
use mathlib.Core.Bool.{Bool, true, false, not, ◌&&◌}
use mathlib.Core.List.{List}
use mathlib.Core.Option.{Option, none}
use lib.ListN.{length, take}
use lib.Dec.{eqb, leb}
use borrow.Author.Tests.{eqb-true, leb-true, not-true}
use Rattle.words.specs.First.{◌or_else◌, unless, first}
use Rattle.words.specs.Bytes.{u32_at, bytes2, bytes4, zeros, zero_from}
use Rattle.words.specs.Sums.{Sums}
use Rattle.word_laws.proofs.Every.{Every}
use Rattle.word_laws.proofs.Lists.{length-tab, front-grows}
use Rattle.word_laws.proofs.Bytes.{Byte, bytes2-u16_at, bytes4-u32_at, read-zeros}
use Rattle.word_laws.proofs.First.{passes-unless, none_first, none-second, none-at}
use Rattle.word_laws.proofs.Tests.{both_first, both-second}
use Rattle.format.specs.Answer.{Refusal, refusal}
use Rattle.format.specs.Layout.{block_bytes, check_at, table_kind, record_bytes, records_at, block_records}
use Rattle.format.specs.Block.{blocks, block, kind, number, total, good_check, sealed}
use Rattle.format.specs.Policy.{Policy}
use Rattle.format.specs.Table.{count, record_at, gap, good_table_header, good_stamp, good_record, table_block_fault, block_image}
use Rattle.format_laws.proofs.BlockImage.{records_in, header, body, shape}
use Rattle.format_laws.proofs.Check.{sealed-again}
use Rattle.format_laws.proofs.BlockRecords.{images-again}

-- ---- the check's findings

pub record Header (s : List ℕ) (k : ℕ) : Type 0 where
  pub kind-is : kind (block s k) ≡ table_kind
  pub number_is : number (block s k) ≡ k
  pub total-is : total (block s k) ≡ blocks s
  pub few : count (block s k) ≤ block_records
  pub no_gap : gap s k ≡ false
  pub spare : zero_from (block s k) 10 6 ≡ true
  pub places : zero_from (block s k) (records_at + record_bytes * count (block s k)) (record_bytes * (block_records - count (block s k))) ≡ true

pub record Accepted (p : Policy) (t : Sums) (s : List ℕ) (k : ℕ) : Type 0 where
  pub check : good_check (block s k) ≡ true
  pub header : Header s k
  pub stamp-a : u32_at (block s k) 16 ≡ t.a
  pub stamp-b : u32_at (block s k) 20 ≡ t.b
  pub records : (i : ℕ) → i < count (block s k) → good_record p (record_at (block s k) i) ≡ true

header_of : (s : List ℕ) (k : ℕ) → good_table_header s k ≡ true → Header s k
unfolding good_table_header
header_of s k =
    go (eqb (kind (block s k)) table_kind) (eqb (number (block s k)) k) (eqb (total (block s k)) (blocks s)) (leb (count (block s k)) block_records)
    (not (gap s k)) (zero_from (block s k) 10 6)
    (zero_from (block s k) (records_at + record_bytes * count (block s k)) (record_bytes * (block_records - count (block s k))))
    (λ a b c d e f g.
    record {
      kind-is = eqb-true (kind (block s k)) table_kind a;
      number_is = eqb-true (number (block s k)) k b;
      total-is = eqb-true (total (block s k)) (blocks s) c;
      few = leb-true (count (block s k)) block_records d;
      no_gap = not-true (gap s k) e;
      spare = f;
      places = g;
    })
  where
    go : (a b c d e f g : Bool) → (a ≡ true → b ≡ true → c ≡ true → d ≡ true → e ≡ true → f ≡ true → g ≡ true → Header s k)
        → a && b && c && d && e && f && g ≡ true → Header s k
    go a b c d e f g make h6 =
        let h5 = both_first (a && b && c && d && e && f) g h6 in
        let h4 = both_first (a && b && c && d && e) f h5 in
        let h3 = both_first (a && b && c && d) e h4 in
        let h2 = both_first (a && b && c) d h3 in
        let h1 = both_first (a && b) c h2 in
        make (both_first a b h1) (both-second a b h1) (both-second (a && b) c h2) (both-second (a && b && c) d h3)
        (both-second (a && b && c && d) e h4) (both-second (a && b && c && d && e) f h5) (both-second (a && b && c && d && e && f) g h6)

pub accepted-block : (p : Policy) (t : Sums) (s : List ℕ) (k : ℕ) → table_block_fault p t s k ≡ none → Accepted p t s k
unfolding table_block_fault good_stamp
accepted-block p t s k h =
    record {
      check = passes-unless (good_check B) (refusal 12 k 0) (none_first (unless (good_check B) (refusal 12 k 0)) after_check h);
      header = header_of s k (passes-unless (good_table_header s k) (refusal 13 k 0) (none_first (unless (good_table_header s k) (refusal 13 k 0)) after-header h13));
      stamp-a = eqb-true (u32_at B 16) t.a (both_first (eqb (u32_at B 16) t.a) (eqb (u32_at B 20) t.b) stamped);
      stamp-b = eqb-true (u32_at B 20) t.b (both-second (eqb (u32_at B 16) t.a) (eqb (u32_at B 20) t.b) stamped);
      records = λ i lt. passes-unless (good_record p (record_at B i)) (refusal 15 k (i + 1)) (none-at record-fault 0 (count B) i h15 (omega arith) (omega arith));
    }
  where
    B : List ℕ
    B = block s k

    record-fault : ℕ → Option Refusal
    record-fault i = unless (good_record p (record_at (block s k) i)) (refusal 15 k (i + 1))

    after-stamp : Option Refusal
    after-stamp = first record-fault 0 (count (block s k))

    after-header : Option Refusal
    after-header = unless (good_stamp t (block s k)) (refusal 14 k 0) or_else after-stamp

    after_check : Option Refusal
    after_check = unless (good_table_header s k) (refusal 13 k 0) or_else after-header

    h13 : after_check ≡ none
    h13 = none-second (unless (good_check B) (refusal 12 k 0)) after_check h

    h14 : after-header ≡ none
    h14 = none-second (unless (good_table_header s k) (refusal 13 k 0)) after-header h13

    h15 : after-stamp ≡ none
    h15 = none-second (unless (good_stamp t B) (refusal 14 k 0)) after-stamp h14

    stamped : good_stamp t B ≡ true
    stamped = passes-unless (good_stamp t B) (refusal 14 k 0) (none_first (unless (good_stamp t B) (refusal 14 k 0)) after-stamp h14)

-- ---- the block is an image

module _ (B : List ℕ) (bytes : Every Byte B) (sized : length B ≡ block_bytes) (few : count B ≤ block_records) where
  module _ (t : Sums) (b k : ℕ) (check : good_check B ≡ true) (kind-is : kind B ≡ table_kind) (number_is : number B ≡ k) (total-is : total B ≡ b)
      (spare : zero_from B 10 6 ≡ true) (stamp-a : u32_at B 16 ≡ t.a) (stamp-b : u32_at B 20 ≡ t.b)
      (places : zero_from B (records_at + record_bytes * count B) (record_bytes * (block_records - count B)) ≡ true) where
    header-again : header t b k (length (records_in B)) ≡ take records_at B
    header-again =
        front-grows B 20 4
        (front-grows B 16 4
        (front-grows B 10 6
        (front-grows B 8 2
        (front-grows B 6 2
        (front-grows B 4 2 (ap bytes4 (sym kind-is) ∙ bytes4-u32_at B bytes 0 (omega arith)) (ap bytes2 (sym number_is) ∙ bytes2-u16_at B bytes 4 (omega arith)))
        (ap bytes2 (sym total-is) ∙ bytes2-u16_at B bytes 6 (omega arith)))
        (ap bytes2 (length-tab (record_at B) 0 (count B)) ∙ bytes2-u16_at B bytes 8 (omega arith)))
        (read-zeros B 10 6 spare (omega arith)))
        (ap bytes4 (sym stamp-a) ∙ bytes4-u32_at B bytes 16 (omega arith)))
        (ap bytes4 (sym stamp-b) ∙ bytes4-u32_at B bytes 20 (omega arith))

    body-again : body t b k (records_in B) ≡ take check_at B
    body-again =
        let e : records_at + record_bytes * count B + record_bytes * (block_records - count B) ≡ check_at = omega arith in
        front-grows B (records_at + record_bytes * count B) (record_bytes * (block_records - count B))
        (front-grows B records_at (record_bytes * count B) header-again (images-again B bytes sized (count B) few))
        (ap (λ n. zeros (record_bytes * (block_records - n))) (length-tab (record_at B) 0 (count B))
        ∙ read-zeros B (records_at + record_bytes * count B) (record_bytes * (block_records - count B)) places (omega arith))
        ∙ ap (λ n. take n B) e

    pub image-again : block_image t b k (records_in B) ≡ B
    image-again = rw shape (ap sealed body-again ∙ sealed-again B bytes sized check)
