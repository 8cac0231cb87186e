-- The fault of a table's block, step by step: its check, its header, its stamp, and then its records. And what is carried from block to block:
-- whether one with fewer records than places came, and how many records.
-- Assumes nothing.
use Prim.Native.Nat.{ℕ, ◌+◌, ◌*◌, ◌≤◌}
use native.Mathlib.Numerals.{add-one}
use native.Mathlib.Omega.{arith}
use mathlib.Core.Path.{◌≡◌, refl, sym, ◌∙◌}
use mathlib.Core.Bool.{Bool, true, false, not, ◌&&◌, ◌||◌}
use mathlib.Core.List.{List}
use mathlib.Core.Option.{some}
use lib.ListN.{length}
use lib.Dec.{eqb, leb, ltb}
use borrow.Author.Tests.{leb-true}
use Rattle.words.specs.Lists.{any_below}
use Rattle.words.specs.Bytes.{u16_at}
use Rattle.words.specs.Sums.{Sums}
use Rattle.word_laws.proofs.First.{test-passes, test-fails}
use Rattle.word_laws.proofs.Lists.{length-tab}
use Rattle.word_laws.proofs.Parts.{u16_at-part}
use Rattle.word_laws.proofs.Tests.{both_first, both-second}
use Rattle.format.specs.Answer.{refusal}
use Rattle.format.specs.Block.{blocks, block, kind, number, total, good_check}
use Rattle.format.specs.Policy.{Policy}
use Rattle.format.specs.Table.{count, record_at, gap, good_table_header, good_stamp, table_block_fault}
use Rattle.format_laws.proofs.BlockImage.{records_in}
use Rattle.table_check.specs.CheckParts.{short_before, good_table_heading, good_table_head, records_fault, table_fault_in}

module _ (short : Bool) (k n : ℕ) (b : List ℕ) where
  pub few-records : good_table_heading short k n b ≡ true → count b ≤ 15
  unfolding good_table_heading
  few-records h = leb-true (count b) 15 (go (eqb (kind b) 2) (eqb (number b) k) (eqb (total b) n) (leb (count b) 15) (not (not (eqb (count b) 0) && short)) h)
    where
      go : (v w x y z : Bool) → v && w && x && y && z ≡ true → y ≡ true
      go v w x y z e = both-second (v && w && x) y (both_first (v && w && x && y) z e)

  pub heading-of : good_table_head short k n b ≡ true → good_table_heading short k n b ≡ true
  unfolding good_table_head
  heading-of h = both_first _ _ (both_first _ _ h)

  module _ (p : Policy) (t : Sums) where
    pub bad-check : good_check b ≡ false → some (refusal 12 k 0) ≡ table_fault_in p t short k n b
    unfolding table_fault_in
    bad-check c = sym (test-fails _ _ c)

    pub bad-head : good_check b ≡ true → good_table_head short k n b ≡ false → some (refusal 13 k 0) ≡ table_fault_in p t short k n b
    unfolding table_fault_in
    bad-head c h = sym (test-passes _ _ c ∙ test-fails _ _ h)

    pub bad-stamp : good_check b ≡ true → good_table_head short k n b ≡ true → good_stamp t b ≡ false → some (refusal 14 k 0) ≡ table_fault_in p t short k n b
    unfolding table_fault_in
    bad-stamp c h s = sym (test-passes _ _ c ∙ test-passes _ _ h ∙ test-fails _ _ s)

    pub by-records : good_check b ≡ true → good_table_head short k n b ≡ true → good_stamp t b ≡ true → records_fault p k b ≡ table_fault_in p t short k n b
    unfolding table_fault_in
    by-records c h s = sym (test-passes _ _ c ∙ test-passes _ _ h ∙ test-passes _ _ s)

module _ (s : List ℕ) (k : ℕ) where
  -- the fault of block k of a table
  pub fault-of-block : (p : Policy) (t : Sums) → table_fault_in p t (short_before s k) k (blocks s) (block s k) ≡ table_block_fault p t s k
  unfolding table_block_fault good_table_header gap table_fault_in good_table_head good_table_heading
  fault-of-block p t = refl

  -- what the next block has before it
  pub short-more : short_before s k || ltb (count (block s k)) 15 ≡ short_before s (k + 1)
  unfolding any_below
  short-more = rw (add-one k)

  -- how many records it has
  pub records-at : length (records_in (block s k)) ≡ u16_at s (512 * k + 8)
  records-at = length-tab (record_at (block s k)) 0 (count (block s k)) ∙ u16_at-part s (512 * k) 512 8 (omega arith)
