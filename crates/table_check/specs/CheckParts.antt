-- Parts of the test of a table that a function of the code computes.
-- Assumes nothing.
use Rattle.std.specs.Prelude.{ℕ, ◌+◌, ◌-◌, ◌*◌, Bool, not, ◌&&◌, List, eqb, leb, ltb}
use Rattle.std.proofs.Math.Option.{Option}
use Rattle.words.specs.Lists.{any_below}
use Rattle.words.specs.First.{◌or_else◌, unless, first}
use Rattle.words.specs.Bytes.{zero_from}
use Rattle.words.specs.Sums.{Sums}
use Rattle.format.specs.Answer.{Refusal, refusal}
use Rattle.format.specs.Layout.{table_kind, spare_at, spare_bytes, records_at, record_bytes, block_records}
use Rattle.format.specs.Block.{block, kind, number, total, good_check}
use Rattle.format.specs.Policy.{Policy}
use Rattle.format.specs.Table.{count, record_at, good_record, good_stamp}

-- ---- a table block: block k of n with the bytes b, and whether some block before it has fewer records than it can have

abbrev pub short_before : List ℕ → ℕ → Bool
short_before s k = any_below k (λ j. ltb (count (block s j)) block_records)

-- "kind, number, total, count, gap"
unfoldable pub good_table_heading : Bool → ℕ → ℕ → List ℕ → Bool
good_table_heading short k n b =
    eqb (kind b) table_kind
    && eqb (number b) k
    && eqb (total b) n
    && leb (count b) block_records
    && not (not (eqb (count b) 0) && short)

-- "spare bytes" too
unfoldable pub good_table_head : Bool → ℕ → ℕ → List ℕ → Bool
good_table_head short k n b =
    good_table_heading short k n b
    && zero_from b spare_at spare_bytes
    && zero_from b (records_at + record_bytes * count b) (record_bytes * (block_records - count b))

-- record i, and the first bad one
abbrev pub record_fault_at : Policy → ℕ → List ℕ → ℕ → Option Refusal
record_fault_at p k b i = unless (good_record p (record_at b i)) (refusal 15 k (i + 1))

abbrev pub records_fault : Policy → ℕ → List ℕ → Option Refusal
records_fault p k b = first (record_fault_at p k b) 0 (count b)

-- the whole block
unfoldable pub table_fault_in : Policy → Sums → Bool → ℕ → ℕ → List ℕ → Option Refusal
table_fault_in p t short k n b =
    unless (good_check b) (refusal 12 k 0)
    or_else unless (good_table_head short k n b) (refusal 13 k 0)
    or_else unless (good_stamp t b) (refusal 14 k 0)
    or_else records_fault p k b
