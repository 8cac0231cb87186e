-- Blocks numbered anew, written one behind the other: after each turn there is one more, and those of two images are the image of them all.
-- Assumes nothing.
use Prim.Native.Nat.{ℕ, ◌+◌, ◌-◌, ◌*◌, ◌≤◌, ◌<◌}
use native.Mathlib.Nat.{zero-add}
use native.Mathlib.Omega.{arith}
use mathlib.Core.Path.{◌≡◌, sym, ap, ap₂, ◌∙◌}
use mathlib.Core.List.{List, [], ◌++◌, flatten}
use lib.ListN.{length, drop, get_or, length-append, get_or-append}
use lib.Seq.{paste-zero}
use Rattle.words.specs.Lists.{tab}
use Rattle.word_laws.proofs.Every.{every-tab}
use Rattle.word_laws.proofs.Lists.{OfLength, length-tab, get_d-tab, tab-cong, length-flatten}
use Rattle.word_laws.proofs.Bytes.{get_d_past}
use Rattle.word_laws.proofs.Parts.{part_length}
use Rattle.format.specs.Layout.{block_bytes}
use Rattle.format.specs.Block.{blocks, block}
use Rattle.format.specs.Policy.{rule_count}
use Rattle.table_write.specs.Writing.{over}
use Rattle.table_write.proofs.Over.{joined}
use Rattle.xml.specs.Blocks.{numbered_anew, permission_blocks, image_of}
use Rattle.numbering.specs.Numbered.{blocks_anew, together}
use Rattle.numbering.proofs.Joins.{joins-more, joins-split}
use Rattle.numbering.proofs.Body.{length-numbered}

-- ---- the blocks of one image

module _ (total at : ℕ) (s : List ℕ) (first : ℕ) where
  -- each is a whole block
  pub length-anew : (n : ℕ) → block_bytes * (first + n) ≤ length s → length (blocks_anew total at s first n) ≡ block_bytes * n
  unfolding blocks_anew
  length-anew n h = length-flatten block_bytes (every-tab f 0 n whole) ∙ ap (λ m. block_bytes * m) (length-tab f 0 n)
    where
      f : ℕ → List ℕ
      f i = numbered_anew total (at + i) (block s (first + i))

      whole : (i : ℕ) → 0 ≤ i → i < 0 + n → OfLength block_bytes (f i)
      whole i lo hi =
          length-numbered total (at + i) (block s (first + i))
          (omega (arith, part_length s (block_bytes * (first + i)) block_bytes (omega arith)))

  -- none is written yet
  pub anew-start : (out : List ℕ) → out ≡ over out (block_bytes * at) 0 (blocks_anew total at s first 0)
  unfolding blocks_anew flatten tab
  anew-start out = paste-zero out (block_bytes * at) []

  -- one more is
  pub anew-more : (out : List ℕ) (i : ℕ) {out₁ out₂ : List ℕ} → block_bytes * (first + (i + 1)) ≤ length s → block_bytes * (at + (i + 1)) ≤ length out
      → out₁ ≡ over out (block_bytes * at) (block_bytes * i) (blocks_anew total at s first i)
      → out₂ ≡ over out₁ (block_bytes * (at + i)) block_bytes (numbered_anew total (at + i) (block s (first + i)))
      → out₂ ≡ over out (block_bytes * at) (block_bytes * (i + 1)) (blocks_anew total at s first (i + 1))
  unfolding blocks_anew
  anew-more out i {out₁} {out₂} inside fits done put =
      let e : block_bytes * (at + i) ≡ block_bytes * at + block_bytes * i = omega arith in
      let d : block_bytes * i + block_bytes ≡ block_bytes * (i + 1) = omega arith in
      joined out (blocks_anew total at s first i) (numbered_anew total (at + i) (block s (first + i))) (block_bytes * at) (block_bytes * i) block_bytes done
      (rw e at put) (length-anew i (omega arith)) (omega arith)
      ∙ ap₂ (over out (block_bytes * at)) d (sym (joins-more (λ j. numbered_anew total (at + j) (block s (first + j))) i))

-- ---- those of two

module _ (kept : List ℕ) (rules : ℕ) (second : List ℕ) (first others : ℕ) (behind : first ≡ rule_count second) (rest : others ≡ blocks second - first) where
  -- how many there are
  pub length_both : length (together kept rules second) ≡ rules + others
  unfolding permission_blocks
  length_both = rw (length-append, length-tab (block kept), length-tab) (omega arith)

  -- block k of both is block k of the first image, or one of the second behind its rules
  from_first : (k : ℕ) → k < rules → get_or (together kept rules second) k [] ≡ block kept (0 + k)
  from_first k h =
      get_or-append (tab (block kept) 0 rules) (permission_blocks second) [] k (rw length-tab h)
      ∙ get_d-tab (block kept) 0 rules k [] h

  from_second : (k : ℕ) → k < others → get_or (together kept rules second) (rules + k) [] ≡ block second (first + k)
  unfolding permission_blocks
  from_second k h =
      get_d_past (tab (block kept) 0 rules) (permission_blocks second) rules k [] (length-tab (block kept) 0 rules)
      ∙ get_d-tab (block second) (rule_count second) (blocks second - rule_count second) k [] (omega arith)
      ∙ ap (λ i. block second (i + k)) (sym behind)

  -- so their image is written in two runs
  pub image-both : image_of (together kept rules second)
      ≡ blocks_anew (rules + others) 0 kept 0 rules ++ blocks_anew (rules + others) rules second first others
  unfolding image_of blocks_anew
  image-both =
      let total : ℕ = rules + others in
      let f : ℕ → List ℕ = λ k. numbered_anew total k (get_or (together kept rules second) k []) in
      rw length_both
      (joins-split f rules others
      ∙ ap₂ (λ xs ys. flatten xs ++ flatten ys)
      (tab-cong f (λ k. numbered_anew total (0 + k) (block kept (0 + k))) 0 rules
      (λ k lo hi. ap₂ (numbered_anew total) (sym (zero-add k)) (from_first k (omega arith))))
      (tab-cong (λ k. f (rules + k)) (λ k. numbered_anew total (rules + k) (block second (first + k))) 0 others
      (λ k lo hi. ap (numbered_anew total (rules + k)) (from_second k (omega arith)))))

  -- which are as long as all the blocks
  module _ (enough : block_bytes * rules ≤ length kept) (few : first ≤ blocks second) where
    pub length-image : length (image_of (together kept rules second)) ≡ block_bytes * (rules + others)
    length-image =
        ap length image-both
        ∙ rw (length-append, length-anew (rules + others) 0 kept 0 rules (omega arith), length-anew (rules + others) rules second first others (omega arith))
        (omega arith)

    -- and leave what stands behind them
    pub image-written : (out : List ℕ) {out₁ out₂ : List ℕ} → block_bytes * (rules + others) ≤ length out
        → out₁ ≡ over out 0 (block_bytes * rules) (blocks_anew (rules + others) 0 kept 0 rules)
        → out₂ ≡ over out₁ (block_bytes * rules) (block_bytes * others) (blocks_anew (rules + others) rules second first others)
        → out₂ ≡ image_of (together kept rules second) ++ drop (length (image_of (together kept rules second))) out
    image-written out {out₁} {out₂} fits done put =
        let e : block_bytes * rules ≡ 0 + block_bytes * rules = omega arith in
        let d : 0 + (block_bytes * rules + block_bytes * others) ≡ block_bytes * (rules + others) = omega arith in
        joined out (blocks_anew (rules + others) 0 kept 0 rules) (blocks_anew (rules + others) rules second first others) 0 (block_bytes * rules) (block_bytes * others) done
        (put ∙ ap (λ at. over out₁ at (block_bytes * others) (blocks_anew (rules + others) rules second first others)) e)
        (length-anew (rules + others) 0 kept 0 rules (omega arith)) (omega arith)
        ∙ ap₂ (λ (l : List ℕ) n. l ++ drop n out) (sym image-both) (d ∙ sym length-image)
