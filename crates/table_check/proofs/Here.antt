-- Where the records of a table stand: a record of a block is a record at a byte of the block and of the table, and the records of an accepted
-- table stand at places 0, 1, .. with no gap.
-- Assumes nothing.
use Prim.Native.Nat.{ℕ, ◌+◌, ◌*◌, ◌/◌, ◌%◌, ◌≤◌, ◌<◌}
use native.Mathlib.Nat.{add_assoc, zero-add}
use native.Mathlib.Omega.{arith}
use mathlib.Core.Path.{◌≡◌, sym, ap, ap₂, ◌∙◌}
use mathlib.Core.List.{List}
use mathlib.Core.Option.{none}
use lib.ListN.{length, get_or, drop, length-take, length-drop}
use lib.Seq.{take-take, get_or-take, get_or-drop, ext_get_or}
use Rattle.words.specs.Lists.{tab}
use Rattle.words.specs.Bytes.{u32_at}
use Rattle.word_laws.proofs.Lists.{length-tab, get_d-tab}
use Rattle.word_laws.proofs.Packed.{length-packed}
use Rattle.word_laws.proofs.Parts.{part-part, u32_at-part}
use Rattle.format.specs.Layout.{block_bytes, block_records, request_bytes, record_bytes, records_at}
use Rattle.format.specs.Block.{blocks, block}
use Rattle.format.specs.Table.{Record, count, record_at, records_of, table_fault}
use Rattle.format.specs.Records.{record_from, record_here, records_here}
use Rattle.format_laws.proofs.BlockImage.{records_in, no_record}
use Rattle.format_laws.proofs.Accepted.{accepted-length, packed, chunk-again}

-- record i of a block begins at byte 24 + 32 * i
pub record-from : (b : List ℕ) (i : ℕ) → record_at b i ≡ record_from b (records_at + record_bytes * i)
unfolding record_at
record-from b i =
    ap₂ {C = Record} (λ q m. record { request = q; marks = m })
    (take-take request_bytes record_bytes (drop (records_at + record_bytes * i) b) (omega arith))
    (u32_at-part b (records_at + record_bytes * i) record_bytes request_bytes (omega arith))

-- and at the same byte past the block's begin
pub record-in : (s : List ℕ) (k i : ℕ) → i < block_records → record_at (block s k) i ≡ record_from s (block_bytes * k + (records_at + record_bytes * i))
record-in s k i h =
    record-from (block s k) i
    ∙ ap₂ {C = Record} (λ q m. record { request = q; marks = m })
    (part-part s (block_bytes * k) block_bytes (records_at + record_bytes * i) request_bytes (omega arith))
    (u32_at-part s (block_bytes * k) block_bytes (records_at + record_bytes * i + request_bytes) (omega arith)
    ∙ ap (u32_at s) (sym (add_assoc (block_bytes * k) (records_at + record_bytes * i) request_bytes)))

module _ (policy s : List ℕ) (accepted : table_fault policy s ≡ none) where
  few : length (records_of s) ≤ block_records * blocks s
  unfolding records_of
  few = length-packed block_records (λ k. records_in (block s k)) 0 (blocks s) (packed policy s accepted)

  -- record j of block k
  in_block : (k j : ℕ) → j < block_records → block_records * k + j < length (records_of s)
      → get_or (records_of s) (block_records * k + j) no_record ≡ record_from s (block_bytes * k + (records_at + record_bytes * j))
  in_block k j narrow h =
      let e = chunk-again policy s accepted k (omega (arith, few)) in
      let lengths = simp (length-take, length-drop, length-tab) at (ap length e) in
      let b : j < count (block s k) = omega arith in
      sym (get_or-take block_records (drop (block_records * k) (records_of s)) j no_record narrow ∙ get_or-drop (block_records * k) (records_of s) j no_record)
      ∙ ap (λ (rs : List Record). get_or rs j no_record) e
      ∙ get_d-tab (record_at (block s k)) 0 (count (block s k)) j no_record b
      ∙ ap (record_at (block s k)) (zero-add j)
      ∙ record-in s k j narrow

  here : (i : ℕ) → i < length (records_of s) → get_or (records_of s) i no_record ≡ record_here s i
  here i h =
      let e : block_records * (i / block_records) + i % block_records ≡ i = omega arith in
      rw e at (in_block (i / block_records) (i % block_records) (omega arith) (omega arith))
      ∙ ap (record_from s) (sym (add_assoc (block_bytes * (i / block_records)) records_at (record_bytes * (i % block_records))))

-- the records of an accepted table are those that stand at its first places
pub accepted-here : (policy s : List ℕ) → table_fault policy s ≡ none → records_of s ≡ records_here s (length (records_of s))
unfolding records_here
accepted-here policy s accepted =
    ext_get_or no_record (records_of s) (tab (record_here s) 0 (length (records_of s))) (sym (length-tab (record_here s) 0 (length (records_of s))))
    (λ i h. here policy s accepted i h ∙ sym (get_d-tab (record_here s) 0 (length (records_of s)) i no_record h ∙ ap (record_here s) (zero-add i)))

-- and it has at most 128 blocks
pub accepted-small : (policy s : List ℕ) → table_fault policy s ≡ none → length s ≤ 65536
accepted-small policy s accepted =
    let b = accepted-length policy s accepted in omega (arith, b.whole-blocks, b.not-over)
