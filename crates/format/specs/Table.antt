-- "Request, record, table": which bytes are a table under a policy, the number that any others get, what a table says, and its image.
-- Assumes nothing.
use Rattle.std.specs.Prelude.{ℕ, ◌+◌, ◌-◌, ◌*◌, Bool, not, ◌&&◌, ◌||◌, length, take, drop, eqb, leb, ltb}
use mathlib.Core.List.{List, [], ◌++◌, flatten, map}
use Rattle.std.proofs.Math.Option.{Option}
use Rattle.words.specs.Lists.{all_below, any_below, tab}
use Rattle.words.specs.First.{◌or_else◌, unless, first}
use Rattle.words.specs.Bytes.{u16_at, u32_at, bytes2, bytes4, zeros, part, zero_from, bit}
use Rattle.words.specs.Sums.{Sums}
use Rattle.format.specs.Answer.{Refusal, refusal}
use Rattle.format.specs.Layout.{table_kind, table_blocks, most_rules, count_at, spare_at, spare_bytes, stamp_at, stamp_b_at}
use Rattle.format.specs.Layout.{request_bytes, record_bytes, records_at, block_records}
use Rattle.format.specs.Block.{blocks, block, kind, number, total, good_length, good_check, sum_bytes, sealed}
use Rattle.format.specs.Request.{Request, good_request}
use Rattle.format.specs.Fits.{fits}
use Rattle.format.specs.Policy.{Policy, policy_of, stamp}

-- ---- the record

-- "A record is the request and 4 bytes of marks, rule r at bit r - 1."
pub record Record : Type 0 where
  pub request : Request
  pub marks : ℕ

-- the record is marked for the rule of index i, which is rule i + 1
abbrev pub marked : ℕ → Record → Bool
marked i r = bit i r.marks

abbrev pub has_mark : Record → Bool
has_mark r = not (eqb r.marks 0)

-- "marks .. only for rules its context fits"
unfoldable pub good_marks : Policy → Record → Bool
good_marks p r = all_below most_rules (λ i. not (marked i r) || (ltb i p.rules && fits (p.rule i) r.request))

-- "A good record is a good request with marks not zero, only for rules its context fits."
unfoldable pub good_record : Policy → Record → Bool
good_record p r = good_request r.request && good_marks p r && has_mark r

-- ---- the table block

-- "8-9 records here"
abbrev pub count : List ℕ → ℕ
count b = u16_at b count_at

-- record i of a block, from 0: "15 records from byte 24"
abbrev pub record_bytes_at : List ℕ → ℕ → List ℕ
record_bytes_at b i = part b (records_at + record_bytes * i) record_bytes

unfoldable pub record_at : List ℕ → ℕ → Record
record_at b i =
    record {
      request = take request_bytes (record_bytes_at b i);
      marks = u32_at (record_bytes_at b i) request_bytes;
    }

-- "A gap belongs to a block that has records after one with fewer than 15."
unfoldable pub gap : List ℕ → ℕ → Bool
gap s k = not (eqb (count (block s k)) 0) && any_below k (λ j. ltb (count (block s j)) block_records)

-- "13: kind, number, total, count, gap, spare bytes": the spare ones are bytes 10-15 and those where no record stands
unfoldable pub good_table_header : List ℕ → ℕ → Bool
good_table_header s k =
    eqb (kind (block s k)) table_kind
    && eqb (number (block s k)) k
    && eqb (total (block s k)) (blocks s)
    && leb (count (block s k)) block_records
    && not (gap s k)
    && zero_from (block s k) spare_at spare_bytes
    && zero_from (block s k) (records_at + record_bytes * count (block s k)) (record_bytes * (block_records - count (block s k)))

-- "16-23 the stamp, a then b"
unfoldable pub good_stamp : Sums → List ℕ → Bool
good_stamp t b = eqb (u32_at b stamp_at) t.a && eqb (u32_at b stamp_b_at) t.b

-- block k: "12: check. 13: .. 14: stamp. 15: record", with "block from 0, then record from 1 (0 if none)"
unfoldable pub table_block_fault : Policy → Sums → List ℕ → ℕ → Option Refusal
table_block_fault p t s k =
    unless (good_check (block s k)) (refusal 12 k 0)
    or_else unless (good_table_header s k) (refusal 13 k 0)
    or_else unless (good_stamp t (block s k)) (refusal 14 k 0)
    or_else first (λ i. unless (good_record p (record_at (block s k) i)) (refusal 15 k (i + 1))) 0 (count (block s k))

-- "11: length not 512 times 1 to 128", then "each block in turn"; under a policy's image
unfoldable pub table_length_fault : List ℕ → Option Refusal
table_length_fault s = unless (good_length table_blocks s) (refusal 11 0 0)

unfoldable pub table_fault : List ℕ → List ℕ → Option Refusal
table_fault policy s =
    table_length_fault s
    or_else first (table_block_fault (policy_of policy) (stamp policy) s) 0 (blocks s)

-- ---- what an accepted table says

-- the records of a table, in order
unfoldable pub records_of : List ℕ → List Record
records_of s = flatten (tab (λ k. tab (record_at (block s k)) 0 (count (block s k))) 0 (blocks s))

-- ---- the image of a list of records

unfoldable pub record_image : Record → List ℕ
record_image r = r.request ++ bytes4 r.marks

-- block k of b blocks with a policy's stamp and these records: the header, the records, zeros, the check
unfoldable pub block_image : Sums → ℕ → ℕ → List Record → List ℕ
block_image t b k rs =
    sealed
    (bytes4 table_kind
    ++ bytes2 k
    ++ bytes2 b
    ++ bytes2 (length rs)
    ++ zeros spare_bytes
    ++ sum_bytes t
    ++ flatten (map record_image rs)
    ++ zeros (record_bytes * (block_records - length rs)))

-- a table of b blocks: "Records fill the blocks from the front with no gap."
unfoldable pub table_image : Sums → ℕ → List Record → List ℕ
table_image t b rs = flatten (tab (λ k. block_image t b k (take block_records (drop (block_records * k) rs))) 0 b)

-- "A fresh table has no record."
unfoldable pub fresh_table : List ℕ → ℕ → List ℕ
fresh_table policy b = table_image (stamp policy) b []
