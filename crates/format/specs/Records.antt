-- Where the records of a table stand: "Records fill the blocks from the front with no gap."
-- Assumes nothing.
use Rattle.std.specs.Prelude.{ℕ, ◌+◌, ◌*◌, ◌/◌, ◌%◌, List}
use Rattle.words.specs.Lists.{tab}
use Rattle.words.specs.Bytes.{u32_at, part}
use Rattle.format.specs.Layout.{block_bytes, block_records, records_at, record_bytes, request_bytes}
use Rattle.format.specs.Table.{Record}

-- the byte at which record i of a table begins, from 0
abbrev pub record_start : ℕ → ℕ
record_start i = block_bytes * (i / block_records) + records_at + record_bytes * (i % block_records)

-- the record at a byte, and record i
abbrev pub record_from : List ℕ → ℕ → Record
record_from s at = record { request = part s at request_bytes; marks = u32_at s (at + request_bytes) }

abbrev pub record_here : List ℕ → ℕ → Record
record_here s i = record_from s (record_start i)

-- the first n records
unfoldable pub records_here : List ℕ → ℕ → List Record
records_here s n = tab (record_here s) 0 n
