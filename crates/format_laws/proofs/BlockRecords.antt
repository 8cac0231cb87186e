-- The records that stand in a block of bytes: each of the fifteen places is the image of the record that it says.
-- Assumes nothing.
use Prim.Native.Nat.{ℕ, ◌+◌, ◌*◌, ◌≤◌, ◌<◌}
use native.Mathlib.Omega.{arith}
use mathlib.Core.Path.{◌≡◌, ap, ◌∙◌}
use mathlib.Core.List.{List, flatten}
use lib.ListN.{length, take, drop, length-drop}
use lib.Seq.{drop-drop, length-take-le}
use Rattle.words.specs.Lists.{tab}
use Rattle.words.specs.Bytes.{part}
use Rattle.word_laws.proofs.Every.{Every, every_take, every_drop}
use Rattle.word_laws.proofs.Lists.{tab-cong, map-tab, flatten-parts}
use Rattle.word_laws.proofs.Bytes.{Byte}
use Rattle.format.specs.Layout.{block_bytes, record_bytes, records_at, block_records}
use Rattle.format.specs.Table.{record_bytes_at, record_at, record_image}
use Rattle.format_laws.proofs.RecordImage.{Whole, images, image-of-bytes, whole-of-bytes}

module _ (B : List ℕ) (bytes : Every Byte B) (sized : length B ≡ block_bytes) where
  length-record : (i : ℕ) → i < block_records → length (record_bytes_at B i) ≡ record_bytes
  length-record i h = length-take-le record_bytes (drop (records_at + record_bytes * i) B) (rw length-drop (omega arith))

  bytes-record : (i : ℕ) → Every Byte (record_bytes_at B i)
  bytes-record i = every_take record_bytes (every_drop (records_at + record_bytes * i) bytes)

  pub record-again : (i : ℕ) → i < block_records → record_image (record_at B i) ≡ record_bytes_at B i
  unfolding record_at
  record-again i h = image-of-bytes (record_bytes_at B i) (bytes-record i) (length-record i h)

  pub record-whole : (i : ℕ) → i < block_records → Whole (record_at B i)
  unfolding record_at
  record-whole i h = whole-of-bytes (record_bytes_at B i) (bytes-record i) (length-record i h)

  -- the first n of them
  pub images-again : (n : ℕ) → n ≤ block_records → images (tab (record_at B) 0 n) ≡ part B records_at (record_bytes * n)
  images-again n h =
      ap flatten (map-tab record_image (record_at B) 0 n
      ∙ tab-cong (λ i. record_image (record_at B i)) (λ i. take record_bytes (drop (record_bytes * i) (drop records_at B))) 0 n
      (λ i lo hi. rw drop-drop (record-again i (omega arith))))
      ∙ flatten-parts record_bytes (drop records_at B) 0 n
