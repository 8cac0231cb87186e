-- Where a table's records stand: they lie in the table and apart from each other, so a record that is put changes no other
-- record, and no block but its own; and the records of a block are the table's, fifteen at a time.
-- Assumes nothing.
use Prim.Native.Nat.{ℕ, ◌+◌, ◌*◌, ◌/◌, ◌%◌, ◌≤◌, ◌<◌}
use native.Mathlib.Decide.{dec_lt}
use native.Mathlib.Omega.{arith}
use mathlib.Core.Path.{◌≡◌, sym, ap, ap₂, ◌∙◌}
use mathlib.Core.List.{List, [], ◌∷◌, ◌++◌}
use lib.ListN.{length, get_or, take, drop, length-append, length-take, length-drop}
use lib.Seq.{length-take-le, take-take, take-length, get_or-take, get_or-drop}
use Rattle.words.specs.Lists.{tab}
use Rattle.words.specs.Bytes.{u32_at, bytes4, part}
use Rattle.words.specs.Sums.{Sums}
use Rattle.word_laws.proofs.Every.{Every, every_take, every_drop, every-tab}
use Rattle.word_laws.proofs.Lists.{tab-cong, tab-get_d}
use Rattle.word_laws.proofs.Bytes.{Byte, u32_at-below}
use Rattle.word_laws.proofs.Parts.{part-part, u32_at-part}
use Rattle.format.specs.Layout.{block_bytes, block_records, records_at, record_bytes, request_bytes, capacity}
use Rattle.format.specs.Block.{block}
use Rattle.format.specs.Table.{Record, record_at, record_image, table_image}
use Rattle.format.specs.Records.{record_start, record_from, record_here, records_here}
use Rattle.table_write.specs.Writing.{over, count_in}
use Rattle.format_laws.proofs.RecordImage.{Whole, record-of-image}
use Rattle.format_laws.proofs.BlockImage.{no_record, record-read}
use Rattle.format_laws.proofs.TableImage.{chunk, few, image-block}
use Rattle.table_write.proofs.Over.{length_over}
use Rattle.word_laws.proofs.Lists.{tab-next}
use Rattle.table_write.proofs.Parts.{part-before, part-behind, part-here, part-tab}

-- ---- the places

-- a record's bytes lie in the table
pub record-inside : (b i : ℕ) → i < capacity b → record_start i + record_bytes ≤ block_bytes * b
record-inside b i h = omega arith

-- and those of two records do not meet
pub records-apart : (i j : ℕ) → i < j → record_start i + record_bytes ≤ record_start j
records-apart i j h = omega arith

-- place i of block k
pub record-in-block : (k i : ℕ) → i < block_records → record_start (block_records * k + i) ≡ block_bytes * k + (records_at + record_bytes * i)
record-in-block k i h = omega arith

-- ---- the record at a byte

-- the record of 32 bytes
abbrev record_of : List ℕ → Record
record_of p = record { request = take request_bytes p; marks = u32_at p request_bytes }

-- it is that of the 32 bytes there
pub record-from : (s : List ℕ) (at : ℕ) → record_from s at ≡ record_of (part s at record_bytes)
record-from s at =
    ap₂ {C = Record} (λ q m. record { request = q; marks = m })
    (sym (take-take request_bytes record_bytes (drop at s) (omega arith)))
    (sym (u32_at-part s at record_bytes request_bytes (omega arith)))

-- so it stays where those bytes stay
pub record_same : (s s' : List ℕ) (at : ℕ) → part s' at record_bytes ≡ part s at record_bytes → record_from s' at ≡ record_from s at
record_same s s' at e = record-from s' at ∙ ap record_of e ∙ sym (record-from s at)

-- and the table's record is its block's
pub here-in-block : (s : List ℕ) (k i : ℕ) → i < block_records → record_here s (block_records * k + i) ≡ record_at (block s k) i
unfolding record_at
here-in-block s k i h =
    ap (record_from s) (record-in-block k i h)
    ∙ record-from s (block_bytes * k + (records_at + record_bytes * i))
    ∙ ap record_of (sym (part-part s (block_bytes * k) block_bytes (records_at + record_bytes * i) record_bytes (omega arith)))

-- ---- the records of a block

pub chunk-here : (s : List ℕ) (n k : ℕ) → chunk (records_here s n) k ≡ tab (record_at (block s k)) 0 (count_in n k)
unfolding records_here
chunk-here s n k =
    part-tab (record_here s) n (block_records * k) block_records
    ∙ tab-cong (λ i. record_here s (block_records * k + i)) (record_at (block s k)) 0 (count_in n k) (λ i lo hi. here-in-block s k i (omega arith))

-- ---- the records of any table

module _ (s : List ℕ) (b : ℕ) (long : length s ≡ block_bytes * b) where
  pub length-request : (i : ℕ) → i < capacity b → length (record_here s i).request ≡ request_bytes
  length-request i h = length-take-le request_bytes (drop (record_start i) s) (rw length-drop (omega arith))

  pub here-whole : Every Byte s → (i : ℕ) → i < capacity b → Whole (record_here s i)
  here-whole bytes i h =
      record { request-length = length-request i h; marks-fit = u32_at-below s bytes (record_start i + request_bytes) (omega arith) }

  pub records-whole : Every Byte s → (n : ℕ) → n ≤ capacity b → Every Whole (records_here s n)
  unfolding records_here
  records-whole bytes n h = every-tab (record_here s) 0 n (λ i lo hi. here-whole bytes i (omega arith))

-- ---- the records of an image

-- record i of the table is record i of the list that it is the image of
pub image-here : (t : Sums) (b : ℕ) (rs : List Record) → Every Whole rs → length rs ≤ capacity b → records_here (table_image t b rs) (length rs) ≡ rs
unfolding records_here
image-here t b rs ws fit =
    tab-cong (record_here (table_image t b rs)) (λ i. get_or rs i no_record) 0 (length rs) (λ i lo hi. at i (omega arith))
    ∙ tab-get_d rs no_record 0 (length rs) (omega arith)
    ∙ take-length rs
  where
    at : (i : ℕ) → i < length rs → record_here (table_image t b rs) i ≡ get_or rs i no_record
    at i h =
        let k : ℕ = i / block_records in
        let j : ℕ = i % block_records in
        let e : block_records * k + j ≡ i = omega arith in
        let low : j < block_records = omega arith in
        let short : j < length (chunk rs k) = rw (length-take, length-drop) (omega arith) in
        ap (record_here (table_image t b rs)) (sym e)
        ∙ here-in-block (table_image t b rs) k j low
        ∙ ap (λ B. record_at B j) (image-block t b rs ws k (omega arith))
        ∙ record-read t b k (chunk rs k) (few rs k) (every_take block_records (every_drop (block_records * k) ws)) j no_record short
        ∙ get_or-take block_records (drop (block_records * k) rs) j no_record low
        ∙ get_or-drop (block_records * k) rs j no_record
        ∙ ap (λ x. get_or rs x no_record) e

-- ---- a record that is put at its place

-- the table with a record at place j
abbrev pub record_put : List ℕ → ℕ → List ℕ → ℕ → List ℕ
record_put s j q m = over s (record_start j) record_bytes (q ++ bytes4 m)

module _ (s : List ℕ) (b : ℕ) (long : length s ≡ block_bytes * b) (j : ℕ) (inside : j < capacity b) (q : List ℕ) (sized : length q ≡ request_bytes)
    (m : ℕ) where
  put-length : length (q ++ bytes4 m) ≡ record_bytes
  put-length = rw (length-append, sized)

  put-fits : record_start j + record_bytes ≤ length s
  put-fits = omega arith

  pub length-put : length (record_put s j q m) ≡ length s
  length-put = length_over s (record_start j) record_bytes (q ++ bytes4 m) put-length put-fits

  pub here_put : m < 4294967296 → record_here (record_put s j q m) j ≡ record { request = q; marks = m }
  unfolding record_image
  here_put small =
      record-from (record_put s j q m) (record_start j)
      ∙ ap record_of (part-here s (record_start j) record_bytes (q ++ bytes4 m) put-length put-fits)
      ∙ record-of-image (record { request = q; marks = m }) (record { request-length = sized; marks-fit = small })

  pub here-kept : (i : ℕ) → (i ≡ j → ⊥) → record_here (record_put s j q m) i ≡ record_here s i
  here-kept i apart = record_same s (record_put s j q m) (record_start i) (go (dec_lt i j))
    where
      go : Dec (i < j) → part (record_put s j q m) (record_start i) record_bytes ≡ part s (record_start i) record_bytes
      go (yes l) =
          part-before s (record_start j) record_bytes (q ++ bytes4 m) put-length put-fits (record_start i) record_bytes (records-apart i j l)
      go (no g) =
          part-behind s (record_start j) record_bytes (q ++ bytes4 m) put-length put-fits (record_start i) record_bytes (records-apart j i (omega arith))

  -- the records before it stay, and with it there is one more
  pub records-kept : (n : ℕ) → n ≤ j → records_here (record_put s j q m) n ≡ records_here s n
  unfolding records_here
  records-kept n h = tab-cong (record_here (record_put s j q m)) (record_here s) 0 n (λ i lo hi. here-kept i (λ e. omega arith))

  pub records-more : m < 4294967296 → records_here (record_put s j q m) (j + 1) ≡ records_here s j ++ (record { request = q; marks = m } ∷ [])
  unfolding records_here
  records-more small =
      rw (tab-next (record_here (record_put s j q m)) j)
      (ap₂ {C = List Record} (λ rs r. rs ++ (r ∷ [])) (records-kept j (omega arith)) (here_put small))

  pub block-kept : (k : ℕ) → (k ≡ j / block_records → ⊥) → block (record_put s j q m) k ≡ block s k
  block-kept k apart = go (dec_lt k (j / block_records))
    where
      go : Dec (k < j / block_records) → block (record_put s j q m) k ≡ block s k
      go (yes l) =
          part-before s (record_start j) record_bytes (q ++ bytes4 m) put-length put-fits (block_bytes * k) block_bytes (omega arith)
      go (no g) =
          part-behind s (record_start j) record_bytes (q ++ bytes4 m) put-length put-fits (block_bytes * k) block_bytes (omega arith)
