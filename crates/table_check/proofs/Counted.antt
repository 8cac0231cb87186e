-- How many records the blocks of a table have, added up.
-- Assumes nothing.
use Rattle.std.proofs.Common.{◌≡◌, ℕ, zero, suc, ◌+◌, ◌*◌, ◌<◌, ◌≤◌, List, length, get_or, refl, sym, ap, ap₂, ◌∙◌, add-one, arith, length-append}
use Rattle.std.proofs.lemmas.List.Sums.{sum_by-cons}
use Rattle.std.specs.List.{sum_by, range_with_len}
use mathlib.Core.List.{flatten}
use Rattle.words.specs.Lists.{tab}
use Rattle.word_laws.proofs.Bytes.{Byte}
use Rattle.word_laws.proofs.Lists.{length-tab}
use Rattle.word_laws.proofs.Parts.{u16_at-part}
use Rattle.format.specs.Block.{block, blocks}
use Rattle.format.specs.Table.{count, record_at, records_of}
use Rattle.format_laws.proofs.BlockImage.{records_in}

joined : {A : Type 0} (f : ℕ → List A) (h : ℕ → ℕ) → ((k : ℕ) → h k ≡ length (f k)) → (n k : ℕ) → sum_by h (range_with_len k n) ≡ length (flatten (tab f k n))
unfolding flatten tab
joined f h e zero k = refl
joined f h e (suc n) k =
    sum_by-cons h k (range_with_len (k + 1) n)
    ∙ ap₂ (λ (a b : ℕ). a + b) (e k) (ap (λ m. sum_by h (range_with_len m n)) (add-one k) ∙ joined f h e n (suc k))
    ∙ sym (length-append (f k) _)

bounded : (h : ℕ → ℕ) → ((k : ℕ) → h k < 65536) → (n k : ℕ) → sum_by h (range_with_len k n) ≤ 65535 * n
bounded h small zero k = omega arith
bounded h small (suc n) k = omega (arith, sum_by-cons h k (range_with_len (k + 1) n), small k, bounded h small n (k + 1))

module _ (s : List ℕ) where
  abbrev pub counts : ℕ
  counts = sum_by (λ k. count (block s k)) (range_with_len 0 (blocks s))

  pub counts-are : counts ≡ length (records_of s)
  unfolding records_of
  counts-are = joined (λ k. records_in (block s k)) (λ k. count (block s k)) (λ k. sym (length-tab (record_at (block s k)) 0 (count (block s k)))) (blocks s) 0

  pub counts-few : ((j : ℕ) → Byte (get_or s j 0)) → counts ≤ 65535 * blocks s
  counts-few bytes =
      bounded (λ k. count (block s k))
      (λ k. rw (u16_at-part s (512 * k) 512 8 (omega arith)) (omega (arith, bytes (512 * k + 8), bytes (512 * k + 8 + 1)))) (blocks s) 0
