-- The table after a grant: the request put behind the records that are left, the records that it then has, and the blocks that need not be written.
-- Assumes nothing.
use Prim.Native.Nat.{ℕ, ◌+◌, ◌/◌, ◌<◌}
use native.Mathlib.Omega.{arith}
use mathlib.Core.Path.{◌≡◌, sym, ap, ap₂, ◌∙◌}
use mathlib.Core.Bool.{cond, not, ◌||◌}
use mathlib.Core.List.{List, [], ◌∷◌, ◌++◌, append-nil}
use lib.Dec.{eqb}
use lib.ListN.{length}
use Rattle.words.specs.Sums.{Sums}
use Rattle.word_laws.proofs.Every.{Every, empty, more, every_append, every_map, every-keep}
use Rattle.word_laws.proofs.Bytes.{Byte}
use Rattle.format.specs.Layout.{block_bytes, request_bytes, capacity}
use Rattle.format.specs.Block.{blocks}
use Rattle.format.specs.Request.{Request}
use Rattle.format.specs.Table.{Record, has_mark, table_image}
use Rattle.format.specs.Records.{records_here}
use Rattle.format.specs.Altered.{altered_blocks}
use Rattle.format_laws.proofs.RecordImage.{Whole}
use Rattle.judge.specs.NewTable.{sweep}
use Rattle.fields.specs.Code.{HasRoom, has_block}
use Rattle.fields.specs.declared.blocks.BlockSet.{BlockSet}
use Rattle.matching.specs.declared.masks.Each.{Each}
use Rattle.table_write.specs.Writing.{count_in, Placed, Noted, size_of}
use Rattle.table_write.proofs.Records.{record_put, records-more}
use Rattle.table_write.proofs.Placed.{placed-put, placed-size}
use Rattle.clearing.specs.Cleared.{kept_marks, cleared_by, left_by, after_by}
use Rattle.clearing.proofs.Left.{length-here, sweep-none, sweep-one}
use Rattle.clearing.proofs.After.{after-length, recorded-one}

-- ---- the request put behind n records

-- it has no mark
pub append-none : (s : List ℕ) (n : ℕ) (q : Request) (gives : ℕ) → gives ≡ 0 → records_here s n ≡ records_here s n ++ sweep (record { request = q; marks = gives } ∷ [])
append-none s n q gives z = rw (sweep-none (record { request = q; marks = gives }) z) (sym (append-nil (records_here s n)))

-- it has some
module _ (t : List ℕ) (n : ℕ) (q : Request) (gives : ℕ) (some : gives ≡ 0 → ⊥) (small : gives < 4294967296) (sized : length q ≡ request_bytes)
    (h : HasRoom t (n + cond (eqb gives 0) 0 1)) {t' : List ℕ} (put : t' ≡ record_put t n q gives) where
  inside : n < capacity (blocks t)
  inside = omega (arith, recorded-one gives some, h.few)

  pub append-one : records_here t' (n + 1) ≡ records_here t n ++ sweep (record { request = q; marks = gives } ∷ [])
  append-one =
      ap (λ (l : List ℕ). records_here l (n + 1)) put
      ∙ records-more t (blocks t) h.whole n inside q sized gives small
      ∙ ap (λ (rs : List Record). records_here t n ++ rs) (sym (sweep-one (record { request = q; marks = gives }) some))

  pub append-placed :
      Every Byte t → (set set' : BlockSet) → Noted t n (record { request = q; marks = gives }) set set'
      → (s : List ℕ) → Placed s t n set → Placed s t' (n + 1) set'
  append-placed bytes set set' noted s p =
      placed-put p (blocks t) (sym p.long ∙ h.whole) inside q sized gives small bytes put set' noted

-- ---- the records that a table then has

module _ (e : Each) (q : Request) (ends : ℕ) (gives : ℕ) where
  -- each of them can be written
  pub after-whole : (rs : List Record) → Every Whole rs → length q ≡ request_bytes → gives < 4294967296 → Every Whole (after_by e q ends gives rs)
  unfolding after_by left_by sweep cleared_by kept_marks
  after-whole rs ws sized small =
      every_append
      (every-keep Whole has_mark
      (every_map (cleared_by e q ends) (λ r w. record { request-length = w.request-length; marks-fit = omega (arith, w.marks-fit) }) ws))
      (every-keep Whole has_mark (more (record { request-length = sized; marks-fit = small }) empty))

  -- those that are left in t, with the request behind them in t'
  pub left-held : (s t : List ℕ) (n m : ℕ) → records_here t m ≡ left_by e q ends (records_here s n)
      → m + cond (eqb gives 0) 0 1 ≡ length (after_by e q ends gives (records_here s n))
  left-held s t n m left =
      ap (λ (x : ℕ). x + cond (eqb gives 0) 0 1) (sym (length-here t m) ∙ ap length left) ∙ sym (after-length e q ends gives (records_here s n))

  module _ (s t t' : List ℕ) (n m held : ℕ) (left : records_here t m ≡ left_by e q ends (records_here s n))
      (appended : records_here t' held ≡ records_here t m ++ sweep (record { request = q; marks = gives } ∷ [])) where
    pub after-here : records_here t' held ≡ after_by e q ends gives (records_here s n)
    unfolding after_by
    after-here = appended ∙ ap (λ (rs : List Record). rs ++ sweep (record { request = q; marks = gives } ∷ [])) left

-- ---- the table written around the records rs that stand in t, which was s

module _ {s t : List ℕ} {j : ℕ} {set : BlockSet} (p : Placed s t j set) {rs : List Record} (here : records_here t j ≡ rs) where
  pub written_held : j ≡ length rs
  written_held = sym (length-here t j) ∙ ap length here

  pub written-image : (x : Sums) {t' : List ℕ} → t' ≡ table_image x (blocks t) (records_here t j) → t' ≡ table_image x (blocks s) rs
  written-image x is = is ∙ ap₂ {C = List ℕ} (table_image x) (ap (λ (l : ℕ). l / block_bytes) p.long) here

  -- of n records before
  pub written-altered :
      (n : ℕ) (set' : BlockSet) → ((k : ℕ) → has_block set' k ≡ not (eqb (count_in n k) (count_in j k)) || has_block set k)
      → {c : ℕ} → c ≡ size_of (blocks t) set' → c ≡ altered_blocks (blocks s) (records_here s n) rs
  written-altered n set' resized is =
      is
      ∙ ap (λ (l : ℕ). size_of (l / block_bytes) set') p.long
      ∙ placed-size p n set' resized (blocks s)
      ∙ ap (altered_blocks (blocks s) (records_here s n)) here
