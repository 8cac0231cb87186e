-- What writing leaves of a table: bytes replaced from a byte on, and what must stand in a table of which some blocks are still to be written.
-- Assumes nothing.
use Rattle.std.specs.Prelude.{ℕ, ◌+◌, ◌-◌, ◌*◌, ◌/◌, ◌<◌, ◌≤◌, min, ◌≡◌, true, false, cond, not, ◌&&◌, ◌||◌, List, ◌++◌, length, take, drop, eqb}
use Rattle.words.specs.Lists.{sum_below}
use Rattle.words.specs.Bytes.{bytes2, bytes4, zeros}
use Rattle.words.specs.Sums.{Sums}
use Rattle.format.specs.Layout.{block_records, table_kind}
use Rattle.format.specs.Block.{blocks, block, sum_bytes}
use Rattle.format.specs.Table.{Record, block_image}
use Rattle.format.specs.Records.{record_here, records_here}
use Rattle.format.specs.Altered.{records_in, same_record}
use Rattle.fields.specs.Code.{has_block}
use Rattle.fields.specs.declared.blocks.BlockSet.{BlockSet}

-- the n bytes from a byte on replaced by these n
abbrev pub over : List ℕ → ℕ → ℕ → List ℕ → List ℕ
over s at n bytes = take at s ++ bytes ++ drop (at + n) s

-- the first 10 bytes of block k of b blocks with n records, and the first 24: "bytes 0-3 kind, .. 4-5 block number from 0, 6-7 blocks in all",
-- "8-9 records here", "16-23 the stamp, a then b"
abbrev pub numbers_image : ℕ → ℕ → ℕ → List ℕ
numbers_image b k n = bytes4 table_kind ++ bytes2 k ++ bytes2 b ++ bytes2 n

abbrev pub header_image : Sums → ℕ → ℕ → ℕ → List ℕ
header_image t b k n = numbers_image b k n ++ zeros 6 ++ sum_bytes t

-- how many of n records stand in block k: "Records fill the blocks from the front with no gap."
abbrev pub count_in : ℕ → ℕ → ℕ
count_in n k = min block_records (n - block_records * k)

-- block k of the image of a table of b blocks with these records
abbrev pub image_block : Sums → ℕ → List Record → ℕ → List ℕ
image_block t b rs k = block_image t b k (records_in rs k)

-- outside a set of blocks the table is the image of the n records that stand in it
pub record ImageBut (t : Sums) (s : List ℕ) (n : ℕ) (set : BlockSet) : Type 0 where
  pub outside : (k : ℕ) → k < blocks s → has_block set k ≡ false → block s k ≡ image_block t (blocks s) (records_here s n) k

-- a place of block k, below n, at which table s' has another record than table s
pub record OtherIn (s s' : List ℕ) (n k : ℕ) : Type 0 where
  pub place : ℕ
  pub within : place / block_records ≡ k
  pub below : place < n
  pub differs : same_record (record_here s place) (record_here s' place) ≡ false

-- table s has become s': a record was put at each of the first n places, one after the other. The blocks of the set are those in which one of them is
-- another than stood there; all others have their bytes.
pub record Placed (s s' : List ℕ) (n : ℕ) (set : BlockSet) : Type 0 where
  pub long : length s' ≡ length s
  pub behind : (i : ℕ) → n ≤ i → record_here s' i ≡ record_here s i
  pub same : (k : ℕ) → has_block set k ≡ false → block s' k ≡ block s k
  pub other : (k : ℕ) → has_block set k ≡ true → OtherIn s s' n k

-- the set after a record was put at place j of table s: its block is added if another stood there
abbrev pub Noted : List ℕ → ℕ → Record → BlockSet → BlockSet → Type 0
Noted s j r set set' = (k : ℕ) → has_block set' k ≡ (eqb k (j / block_records) && not (same_record (record_here s j) r)) || has_block set k

-- how many of the first b blocks a set has
unfoldable pub size_of : ℕ → BlockSet → ℕ
size_of b set = sum_below b (λ k. cond (has_block set k) 1 0)
