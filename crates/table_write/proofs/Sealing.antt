-- A block that was written in three steps, header, zeros behind its records, check, is the image of those records.
-- Assumes nothing.
use Prim.Native.Nat.{ℕ, ◌+◌, ◌-◌, ◌*◌, ◌≤◌}
use native.Mathlib.Omega.{arith}
use mathlib.Core.Path.{◌≡◌, refl, sym, ap, ◌∙◌}
use mathlib.Core.List.{List, ◌++◌}
use lib.ListN.{length, take, length-replicate}
use Rattle.words.specs.Lists.{tab}
use Rattle.words.specs.Bytes.{zeros, part}
use Rattle.words.specs.Sums.{Sums, sums, words}
use Rattle.word_laws.proofs.Every.{Every}
use Rattle.word_laws.proofs.Lists.{length-tab}
use Rattle.word_laws.proofs.Bytes.{Byte}
use Rattle.format.specs.Layout.{block_bytes, check_at, record_bytes, records_at, block_records}
use Rattle.format.specs.Block.{sum_bytes, sealed}
use Rattle.format.specs.Table.{record_at, block_image}
use Rattle.table_write.specs.Writing.{over, header_image}
use Rattle.format_laws.proofs.BlockImage.{body, shape}
use Rattle.format_laws.proofs.BlockRecords.{images-again}
use Rattle.table_write.proofs.Over.{length_over, take-here, take_past, over-end}

-- the check behind a block's 504 bytes
pub check-put : (s : List ℕ) (t : Sums) {s' : List ℕ} → length s ≡ block_bytes → t ≡ sums (words (take check_at s))
    → s' ≡ over s check_at 8 (sum_bytes t) → s' ≡ sealed (take check_at s)
unfolding sealed
check-put s t sized said put = put ∙ over-end s check_at 8 (sum_bytes t) sized ∙ ap (λ x. take check_at s ++ sum_bytes x) said

-- bytes replaced, and others i bytes behind them
between : (B h z : List ℕ) (at w i m : ℕ) {s₁ s₂ : List ℕ} → length h ≡ w → length z ≡ m → at + w + i + m ≤ length B
    → s₁ ≡ over B at w h → s₂ ≡ over s₁ (at + w + i) m z → take (at + w + i + m) s₂ ≡ take at B ++ h ++ part B (at + w) i ++ z
between B h z at w i m lh lz fits p q =
    let long : length (over B at w h) ≡ length B = length_over B at w h lh (omega arith) in
    ap (take (at + w + i + m)) (q ∙ ap (λ (l : List ℕ). over l (at + w + i) m z) p)
    ∙ take-here (over B at w h) (at + w + i) m z lz (omega arith)
    ∙ ap (λ (l : List ℕ). l ++ z) (take_past B at w h lh (omega arith) i)

-- the three steps
module _ (B : List ℕ) (bytes : Every Byte B) (sized : length B ≡ block_bytes) (t : Sums) (b k n : ℕ) (few : n ≤ block_records) where
  body-made : (m : ℕ) → m ≡ record_bytes * (block_records - n)
      → header_image t b k n ++ part B records_at (record_bytes * n) ++ zeros m ≡ body t b k (tab (record_at B) 0 n)
  unfolding sum_bytes
  body-made m e = rw (length-tab, images-again B bytes sized n few, e)

  pub block_made : {s₁ s₂ s₃ : List ℕ} → s₁ ≡ over B 0 records_at (header_image t b k n)
      → s₂ ≡ over s₁ (records_at + record_bytes * n) (check_at - (records_at + record_bytes * n)) (zeros (check_at - (records_at + record_bytes * n)))
      → s₃ ≡ sealed (take check_at s₂)
      → s₃ ≡ block_image t b k (tab (record_at B) 0 n)
  unfolding sum_bytes
  block_made {s₁} {s₂} {s₃} headed zeroed checked =
      let m : ℕ = check_at - (records_at + record_bytes * n) in
      let e : records_at + record_bytes * n + m ≡ check_at = omega arith in
      let made = between B (header_image t b k n) (zeros m) 0 records_at (record_bytes * n) m refl (length-replicate m 0) (omega arith) headed zeroed in
      rw shape (checked ∙ ap sealed (ap (λ j. take j s₂) (sym e) ∙ made ∙ body-made m (omega arith)))
