-- What the image of one table block says: its length, its header, its stamp, its records and its check are read back as they were written.
-- Assumes nothing.
use Prim.Native.Nat.{ℕ, ◌+◌, ◌-◌, ◌*◌, ◌≤◌, ◌<◌}
use native.Mathlib.Omega.{arith}
use mathlib.Core.Path.{◌≡◌, refl, ◌∙◌}
use mathlib.Core.Bool.{true}
use mathlib.Core.List.{List, [], ◌++◌, append_assoc}
use lib.ListN.{length, get_or, drop, length-append, length-map, length-replicate}
use lib.Seq.{take-length, drop-drop}
use borrow.Author.Tests.{eq-eqb}
use Rattle.words.specs.Lists.{all_below, tab}
use Rattle.words.specs.Bytes.{bytes2, bytes4, zeros, zero_from}
use Rattle.words.specs.Sums.{Sums, sums, words}
use Rattle.word_laws.proofs.Every.{Every, every-get_d}
use Rattle.word_laws.proofs.Lists.{part-flatten, get_d_map, tab-cong, tab-get_d}
use Rattle.word_laws.proofs.Bytes.{read2, read4, zeros-read}
use Rattle.word_laws.proofs.Tests.{both}
use Rattle.word_laws.proofs.Sums.{Fit}
use Rattle.format.specs.Layout.{table_kind, record_bytes, block_records, block_bytes, records_at}
use Rattle.format.specs.Block.{kind, number, total, good_check, sum_bytes, sealed}
use Rattle.format.specs.Table.{Record, count, record_bytes_at, record_at, good_stamp, record_image, block_image}
use Rattle.format_laws.proofs.RecordImage.{Whole, record-of-image, images, images-of-length, length-images}
use Rattle.format_laws.proofs.Check.{length-sealed, sealed-passes}

-- the records that a block says
abbrev pub records_in : List ℕ → List Record
records_in B = tab (record_at B) 0 (count B)

-- what `get_or` answers past the end of a list of records
pub no_record : Record
no_record = record { request = []; marks = 0 }

-- ---- the shape of a block

-- its first 24 bytes
abbrev pub header : Sums → ℕ → ℕ → ℕ → List ℕ
header t b k n = bytes4 table_kind ++ bytes2 k ++ bytes2 b ++ bytes2 n ++ zeros 6 ++ (bytes4 t.a ++ bytes4 t.b)

-- all but the check
abbrev pub body : Sums → ℕ → ℕ → List Record → List ℕ
body t b k rs = header t b k (length rs) ++ images rs ++ zeros (record_bytes * (block_records - length rs))

pub shape : (t : Sums) (b k : ℕ) (rs : List Record) → block_image t b k rs ≡ sealed (body t b k rs)
unfolding block_image sum_bytes
shape t b k rs = refl

module _ (t : Sums) (b k : ℕ) (rs : List Record) where
  -- ---- the header

  pub kind-read : kind (block_image t b k rs) ≡ table_kind
  unfolding block_image sealed sum_bytes
  kind-read = refl

  pub number_read : k < 65536 → number (block_image t b k rs) ≡ k
  unfolding block_image sealed sum_bytes
  number_read h = read2 k h

  pub total-read : b < 65536 → total (block_image t b k rs) ≡ b
  unfolding block_image sealed sum_bytes
  total-read h = read2 b h

  pub count-read : length rs ≤ block_records → count (block_image t b k rs) ≡ length rs
  unfolding block_image sealed sum_bytes
  count-read h = read2 (length rs) (omega arith)

  pub spare-read : zero_from (block_image t b k rs) 10 6 ≡ true
  unfolding block_image sealed sum_bytes zero_from all_below
  spare-read = refl

  pub stamp-read : Fit t → good_stamp t (block_image t b k rs) ≡ true
  unfolding block_image sealed sum_bytes good_stamp
  stamp-read h = both (eq-eqb _ _ (read4 t.a h.a-fits)) (eq-eqb _ _ (read4 t.b h.b-fits))

module _ (t : Sums) (b k : ℕ) (rs : List Record) (few : length rs ≤ block_records) (ws : Every Whole rs) where
  length-body : length (body t b k rs) ≡ 504
  length-body = rw (length-append, length-images rs ws, length-replicate) (omega arith)

  pub block-length : length (block_image t b k rs) ≡ block_bytes
  block-length = rw shape (length-sealed (body t b k rs) length-body)

  pub check-read : good_check (block_image t b k rs) ≡ true
  check-read = rw shape (sealed-passes (body t b k rs) length-body)

  pub unused-read : zero_from (block_image t b k rs) (records_at + record_bytes * length rs) (record_bytes * (block_records - length rs)) ≡ true
  unfolding block_image sealed sum_bytes
  unused-read =
      zeros-read (header t b k (length rs) ++ images rs) (sum_bytes (sums (words (body t b k rs)))) (records_at + record_bytes * length rs)
      (record_bytes * (block_records - length rs)) (rw (length-append, length-images rs ws) (omega arith))

  -- what stands behind the header
  behind : drop records_at (block_image t b k rs) ≡ images rs ++ (zeros (record_bytes * (block_records - length rs)) ++ sum_bytes (sums (words (body t b k rs))))
  unfolding block_image sealed sum_bytes
  behind = append_assoc (images rs) (zeros (record_bytes * (block_records - length rs))) (sum_bytes (sums (words (body t b k rs))))

  bytes_read : (i : ℕ) (d : Record) → i < length rs → record_bytes_at (block_image t b k rs) i ≡ record_image (get_or rs i d)
  bytes_read i d h =
      rw (← drop-drop (record_bytes * i) records_at (block_image t b k rs), behind)
      (part-flatten record_bytes i (zeros (record_bytes * (block_records - length rs)) ++ sum_bytes (sums (words (body t b k rs)))) (images-of-length ws) (rw length-map h)
      ∙ get_d_map record_image rs i d [] h)

  pub record-read : (i : ℕ) (d : Record) → i < length rs → record_at (block_image t b k rs) i ≡ get_or rs i d
  unfolding record_at
  record-read i d h = rw (bytes_read i d h) (record-of-image (get_or rs i d) (every-get_d d i ws h))

  pub records-read : records_in (block_image t b k rs) ≡ rs
  records-read =
      rw (count-read t b k rs few)
      (tab-cong (record_at (block_image t b k rs)) (λ i. get_or rs i no_record) 0 (length rs) (λ i lo hi. record-read i no_record (omega arith))
      ∙ tab-get_d rs no_record 0 (length rs) (omega arith)
      ∙ take-length rs)
