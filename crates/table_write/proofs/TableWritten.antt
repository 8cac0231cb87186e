-- A table written block by block: the blocks that were passed are those of the image of the records that stood in it, and with none left it is that
-- image.
-- Assumes nothing.
use Prim.Native.Nat.{ℕ, zero, suc, ◌+◌, ◌*◌, ◌≤◌, ◌<◌}
use native.Mathlib.Nat.{add-zero}
use native.Mathlib.Numerals.{add-one}
use native.Mathlib.Decide.{dec_lt}
use native.Mathlib.Omega.{arith}
use mathlib.Core.Path.{◌≡◌, refl, sym, ap, ◌∙◌}
use mathlib.Core.Bool.{Bool, true, false, cond, false≢true}
use mathlib.Core.List.{List, flatten}
use lib.ListN.{length}
use lib.Seq.{take_all}
use Rattle.words.specs.Lists.{tab, sum_below}
use Rattle.words.specs.Sums.{Sums}
use Rattle.word_laws.proofs.Below.{sum_more, sum-most}
use Rattle.word_laws.proofs.Every.{Every}
use Rattle.word_laws.proofs.Lists.{tab-cong, flatten-parts}
use Rattle.word_laws.proofs.Bytes.{Byte}
use Rattle.format.specs.Layout.{block_bytes, capacity}
use Rattle.format.specs.Block.{blocks, block}
use Rattle.format.specs.Table.{record_at, block_image, table_image}
use Rattle.format.specs.Records.{records_here}
use Rattle.table_write.specs.Writing.{over, count_in, image_block, ImageBut, size_of}
use Rattle.fields.specs.declared.blocks.BlockSet.{BlockSet}
use Rattle.fields.specs.Code.{HasRoom, has_block}
use Rattle.format_laws.proofs.TableImage.{image-block}
use Rattle.table_write.proofs.Over.{over_sized}
use Rattle.table_write.proofs.Parts.{part-before, part-behind, part-here}
use Rattle.table_write.proofs.Records.{chunk-here, records-whole}

-- where every block is to be written nothing is asked
pub all_changed : (t : Sums) (s : List ℕ) (n : ℕ) (set : BlockSet) → ((k : ℕ) → k < blocks s → has_block set k ≡ true) → ImageBut t s n set
all_changed t s n set every = record { outside = λ k h off. absurd (false≢true (sym off ∙ every k h)) }

-- each block of an image is the image's
pub image-at : (t : Sums) (s : List ℕ) (n : ℕ) → Every Byte s → length s ≡ block_bytes * blocks s → n ≤ capacity (blocks s)
    → s ≡ table_image t (blocks s) (records_here s n) → (k : ℕ) → k < blocks s → block s k ≡ image_block t (blocks s) (records_here s n) k
image-at t s n bytes long fit e k h =
    ap (λ (l : List ℕ). block l k) e ∙ image-block t (blocks s) (records_here s n) (records-whole s (blocks s) long bytes n fit) k h

-- a block that is the image's in one table is so in another that has the same block and as many records there
pub image-kept : (t : Sums) (s s' : List ℕ) (n n' k : ℕ) → blocks s' ≡ blocks s → block s' k ≡ block s k → count_in n' k ≡ count_in n k
    → block s k ≡ image_block t (blocks s) (records_here s n) k → block s' k ≡ image_block t (blocks s') (records_here s' n') k
image-kept t s s' n n' k eb ek en e =
    ek
    ∙ e
    ∙ ap (block_image t (blocks s) k) (chunk-here s n k)
    ∙ rw (← eb, ← ek, ← en) (sym (ap (block_image t (blocks s') k) (chunk-here s' n' k)))

-- an image is one outside any set of blocks
pub image-but : (t : Sums) (s : List ℕ) (n : ℕ) (set : BlockSet) → Every Byte s → HasRoom s n → s ≡ table_image t (blocks s) (records_here s n)
    → ImageBut t s n set
image-but t s n set bytes room e = record { outside = λ k h off. image-at t s n bytes room.whole room.few e k h }

-- table s, that was s₀, with the blocks from k on left
pub record Written (t : Sums) (s₀ : List ℕ) (n k : ℕ) (s : List ℕ) : Type 0 where
  pub long : length s ≡ length s₀
  pub passed : (j : ℕ) → j < k → block s j ≡ image_block t (blocks s₀) (records_here s₀ n) j
  pub left : (j : ℕ) → k ≤ j → block s j ≡ block s₀ j

pub start : (t : Sums) (s : List ℕ) (n : ℕ) → Written t s n 0 s
start t s n = record { long = refl; passed = λ j h. absurd (omega arith); left = λ j lo. refl }

module _ {t : Sums} {s₀ : List ℕ} {n k : ℕ} {s : List ℕ} (w : Written t s₀ n k s) (turn : k < blocks s₀) where
  -- block k is passed
  pass : {s' : List ℕ} → length s' ≡ length s → ((j : ℕ) → (j ≡ k → ⊥) → block s' j ≡ block s j)
      → block s' k ≡ image_block t (blocks s₀) (records_here s₀ n) k → Written t s₀ n (k + 1) s'
  pass {s'} same others here =
      record {
        long = same ∙ w.long;
        passed = λ j h. go j h (dec_lt j k);
        left = λ j lo. others j (λ e. omega arith) ∙ w.left j (omega arith);
      }
    where
      go : (j : ℕ) → j < k + 1 → Dec (j < k) → block s' j ≡ image_block t (blocks s₀) (records_here s₀ n) j
      go j h (yes l) = others j (λ e. omega arith) ∙ w.passed j l
      go j h (no g) = let i : j ≡ k = omega arith in rw i here

  -- it is the image's already
  pub skip : {set : BlockSet} → ImageBut t s₀ n set → has_block set k ≡ false → Written t s₀ n (k + 1) s
  skip but off = pass refl (λ j e. refl) (w.left k (omega arith) ∙ but.outside k turn off)

  new : List ℕ
  new = block_image t (blocks s₀) k (tab (record_at (block s k)) 0 (count_in n k))

  -- it is written
  pub more : length s₀ ≡ block_bytes * blocks s₀ → {s' : List ℕ}
      → s' ≡ over s (block_bytes * k) block_bytes (block_image t (blocks s₀) k (tab (record_at (block s k)) 0 (count_in n k)))
      → length s' ≡ length s → Written t s₀ n (k + 1) s'
  unfolding new
  more whole {s'} e same = pass same (λ j apart. others j apart (dec_lt j k)) here
    where
      fits : block_bytes * k + block_bytes ≤ length s
      fits = omega (arith, w.long)

      sized : length new ≡ block_bytes
      sized = over_sized s (block_bytes * k) block_bytes new fits (ap length (sym e) ∙ same)

      others : (j : ℕ) → (j ≡ k → ⊥) → Dec (j < k) → block s' j ≡ block s j
      others j apart (yes l) =
          ap (λ (r : List ℕ). block r j) e ∙ part-before s (block_bytes * k) block_bytes new sized fits (block_bytes * j) block_bytes (omega arith)
      others j apart (no g) =
          ap (λ (r : List ℕ). block r j) e ∙ part-behind s (block_bytes * k) block_bytes new sized fits (block_bytes * j) block_bytes (omega arith)

      here : block s' k ≡ image_block t (blocks s₀) (records_here s₀ n) k
      here =
          ap (λ (r : List ℕ). block r k) e
          ∙ part-here s (block_bytes * k) block_bytes new sized fits
          ∙ ap (λ B. block_image t (blocks s₀) k (tab (record_at B) 0 (count_in n k))) (w.left k (omega arith))
          ∙ sym (ap (block_image t (blocks s₀) k) (chunk-here s₀ n k))

-- none is left
pub done : {t : Sums} {s₀ : List ℕ} {n : ℕ} {s : List ℕ} → Written t s₀ n (blocks s₀) s → length s₀ ≡ block_bytes * blocks s₀
    → s ≡ table_image t (blocks s₀) (records_here s₀ n)
unfolding table_image
done {t} {s₀} {n} {s} w whole =
    sym (take_all (block_bytes * blocks s₀) s (omega (arith, w.long)))
    ∙ sym (flatten-parts block_bytes s 0 (blocks s₀))
    ∙ ap flatten (tab-cong (block s) (image_block t (blocks s₀) (records_here s₀ n)) 0 (blocks s₀) (λ j lo hi. w.passed j (omega arith)))

-- ---- how many were written

module _ (set : BlockSet) where
  pub size-start : 0 ≡ size_of 0 set
  unfolding size_of sum_below
  size-start = refl

  pub size-most : {x : ℕ} (k : ℕ) → x ≡ size_of k set → x ≤ k
  unfolding size_of
  size-most k is = rw is (sum-most k (has_block set))

  -- block k was passed, or written
  pub size-skip : {x : ℕ} (k : ℕ) → x ≡ size_of k set → has_block set k ≡ false → x ≡ size_of (k + 1) set
  unfolding size_of
  size-skip {x} k is off = sym (add-zero x) ∙ sum_more (λ j. cond (has_block set j) 1 0) k x 0 is (sym (ap (λ (b : Bool). cond b 1 0) off))

  pub size-more : {x : ℕ} (k : ℕ) → x ≡ size_of k set → has_block set k ≡ true → x + 1 ≡ size_of (k + 1) set
  unfolding size_of
  size-more {x} k is on = sum_more (λ j. cond (has_block set j) 1 0) k x 1 is (sym (ap (λ (b : Bool). cond b 1 0) on))

  -- each of them is in the set
  pub size-all : (b : ℕ) → ((k : ℕ) → k < b → has_block set k ≡ true) → size_of b set ≡ b
  unfolding size_of sum_below
  size-all zero every = refl
  size-all (suc b) every = rw (size-all b (λ k h. every k (omega arith)), every b (omega arith)) (add-one b)
