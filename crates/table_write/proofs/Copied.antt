-- Words that are copied one after the other, from another list or from further back in the same one.
-- Assumes nothing.
use Prim.Native.Nat.{ℕ, ◌+◌, ◌*◌, ◌≤◌}
use native.Mathlib.Nat.{add-zero}
use native.Mathlib.Omega.{arith}
use mathlib.Core.Path.{◌≡◌, sym, ap, ◌∙◌}
use mathlib.Core.List.{List, ◌++◌}
use lib.ListN.{length, drop, length-drop}
use lib.Seq.{sets, length-take-le, take-add, drop-drop}
use Rattle.words.specs.Bytes.{u32_at, bytes4, part}
use Rattle.word_laws.proofs.Every.{Every}
use Rattle.word_laws.proofs.Bytes.{Byte, bytes4-u32_at}
use Rattle.word_laws.proofs.Parts.{u32_at-part}
use Rattle.table_write.specs.Writing.{over}
use Rattle.table_write.proofs.Over.{stored}
use Rattle.table_write.proofs.Parts.{part-behind}

module _ (src : List ℕ) (bytes : Every Byte src) (from i : ℕ) (inside : from + 4 * i + 4 ≤ length src) where
  -- one word more of the source
  pub word_more : part src from (4 * i) ++ bytes4 (u32_at src (from + 4 * i)) ≡ part src from (4 * (i + 1))
  word_more =
      let e : 4 * (i + 1) ≡ 4 * i + 4 = omega arith in
      rw (bytes4-u32_at src bytes (from + 4 * i) inside, e, take-add, drop-drop)

  pub part_length : length (part src from (4 * i)) ≡ 4 * i
  part_length = length-take-le (4 * i) (drop from src) (rw length-drop (omega arith))

  -- is one word more of the copy
  pub copied : (s : List ℕ) (at x : ℕ) {s₁ s₂ : List ℕ} → at + 4 * i + 4 ≤ length s → s₁ ≡ over s at (4 * i) (part src from (4 * i))
      → x ≡ u32_at src (from + 4 * i) → s₂ ≡ sets s₁ (at + 4 * i) (bytes4 x) → s₂ ≡ over s at (4 * (i + 1)) (part src from (4 * (i + 1)))
  copied s at x {s₁} {s₂} fits p e q =
      let d : 4 * i + 4 ≡ 4 * (i + 1) = omega arith in
      stored s (part src from (4 * i)) (bytes4 x) at (4 * i) p q part_length fits
      ∙ rw (e, word_more, d)

-- a word that was not written over yet
pub word-ahead : (s : List ℕ) (at n j : ℕ) (vs : List ℕ) {s₁ : List ℕ} → length vs ≡ n → at + n ≤ length s → s₁ ≡ over s at n vs → at + n ≤ j
    → u32_at s₁ j ≡ u32_at s j
word-ahead s at n j vs {s₁} sized fits e h =
    sym (there s₁) ∙ ap (λ (l : List ℕ). u32_at l 0) (ap (λ (l : List ℕ). part l j 4) e ∙ part-behind s at n vs sized fits j 4 h) ∙ there s
  where
    there : (l : List ℕ) → u32_at (part l j 4) 0 ≡ u32_at l j
    there l = u32_at-part l j 4 0 (omega arith) ∙ ap (u32_at l) (add-zero j)
