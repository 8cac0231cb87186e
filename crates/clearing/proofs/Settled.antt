-- Records settled one after the other: what is left of those that were passed stands in front; the later ones are untouched. Records that stay as they are
-- are passed at once. And where a last step leaves a record as it is.
-- Assumes nothing.
use Prim.Native.Nat.{ℕ, zero, suc, ◌+◌, ◌-◌, ◌*◌, ◌/◌, ◌<◌, ◌≤◌}
use native.Mathlib.Nat.{zero-add, add-zero}
use native.Mathlib.Omega.{arith}
use mathlib.Core.Path.{◌≡◌, sym, ap, ap₂, ◌∙◌}
use mathlib.Core.Bool.{true, false, not, false≢true}
use mathlib.Core.List.{List, [], ◌∷◌, ◌++◌, append-nil}
use borrow.Author.Tests.{eq-eqb}
use lib.ListN.{length, get_or, length-append}
use Rattle.word_laws.proofs.Every.{Every, every-get_d, kept-passes}
use Rattle.word_laws.proofs.Lists.{get_d-tab}
use Rattle.word_laws.proofs.Bytes.{Byte}
use Rattle.format.specs.Layout.{block_bytes, block_records, capacity}
use Rattle.format.specs.Request.{Request}
use Rattle.format.specs.Table.{Record, has_mark}
use Rattle.format.specs.Records.{record_here, records_here}
use Rattle.judge.specs.NewTable.{sweep}
use Rattle.fields.specs.declared.blocks.BlockSet.{BlockSet}
use Rattle.fields.specs.Code.{has_block, no_block}
use Rattle.matching.specs.declared.masks.Each.{Each}
use Rattle.matching.specs.Masks.{NearOf}
use Rattle.table_write.specs.Writing.{Placed, Noted}
use Rattle.table_write.proofs.Records.{record_put, length-request, here-whole, records-more}
use Rattle.table_write.proofs.Placed.{placed-start, placed_on, placed-put}
use Rattle.clearing.specs.Cleared.{kept_marks, cleared_by, left_by, AllMarked}
use Rattle.clearing.specs.Settling.{OneByOne, Settling, StayIn}
use Rattle.clearing.proofs.Left.{records-none, records-one, length-here, rest-start, rest_more, left-all, left-by-one, left_one}

-- ---- a record that stays as it is

here-at : (s : List ℕ) (n k : ℕ) (d : Record) → k < n → get_or (records_here s n) k d ≡ record_here s k
unfolding records_here
here-at s n k d h = get_d-tab (record_here s) 0 n k d h ∙ ap (record_here s) (zero-add k)

module _ (s : List ℕ) (n : ℕ) (marked : AllMarked s n) where
  some-mark : (k : ℕ) → k < n → (record_here s k).marks ≡ 0 → ⊥
  unfolding sweep
  some-mark k h z =
      let r = record_here s k in
      let all : Every (λ (x : Record). has_mark x ≡ true) (records_here s n) = rw marked at (kept-passes has_mark (records_here s n)) in
      let passes : has_mark r ≡ true = ap has_mark (sym (here-at s n k r h)) ∙ every-get_d r k all (omega (arith, length-here s n)) in
      false≢true (sym (ap not (eq-eqb r.marks 0 z)) ∙ passes)

  module _ (e : Each) (q : Request) (ends : ℕ) (near : BlockSet) (is : NearOf e ends q s n near) where
    -- outside the blocks near
    pub left_here : (k : ℕ) → k < n → has_block near (k / block_records) ≡ false → left_by e q ends (record_here s k ∷ []) ≡ record_here s k ∷ []
    unfolding cleared_by kept_marks
    left_here k h off =
        let r = record_here s k in
        let same : cleared_by e q ends r ≡ r = ap {B = Record} (λ m. record { request = r.request; marks = m }) (omega (arith, is k h off)) in
        left_one e q ends r (λ z. some-mark k h (ap (λ (x : Record). x.marks) (sym same) ∙ z)) ∙ ap {B = List Record} (λ x. x ∷ []) same

    -- so many of them are counted
    pub left-count :
        (i d : ℕ) → i + d ≤ n → ((k : ℕ) → i ≤ k → k < i + d → has_block near (k / block_records) ≡ false)
        → length (left_by e q ends (records_here s (i + d))) ≡ length (left_by e q ends (records_here s i)) + d
    left-count i zero h off = rw (add-zero i) (sym (add-zero (length (left_by e q ends (records_here s i)))))
    left-count i (suc d) h off =
        let e₁ : i + suc d ≡ i + d + 1 = omega arith in
        let ih = left-count i d (omega arith) (λ k lo hi. off k lo (omega arith)) in
        let last = ap length (left_here (i + d) (omega arith) (off (i + d) (omega arith) (omega arith))) in
        rw e₁
        (ap length (rest_more (left-by-one e q ends) s (i + d))
        ∙ length-append (left_by e q ends (records_here s (i + d))) (left_by e q ends (record_here s (i + d) ∷ []))
        ∙ omega (arith, ih, last))

-- no rule ends
pub settle-none :
    (e : Each) (q : Request) (ends : ℕ) (s : List ℕ) (n : ℕ) → AllMarked s n → ends ≡ 0
    → (records_here s n ≡ left_by e q ends (records_here s n)) × Placed s s n no_block
settle-none e q ends s n marked z = (rw z (sym (left-all e q (records_here s n) marked)), placed_on (placed-start s) n (omega arith))

-- ---- the pass

module _ {rest : List Record → List Record} where
  pub settle-start : OneByOne rest → (s : List ℕ) → Settling rest s 0 s 0 no_block
  settle-start o s = record { by_one = o; records = records-none s ∙ sym (rest-start o s); placed = placed-start s; few = omega arith }

  module _ {s : List ℕ} {i : ℕ} {t : List ℕ} {j : ℕ} {set : BlockSet} (w : Settling rest s i t j set) where
    -- record i is still where it was
    here : record_here t i ≡ record_here s i
    here = w.placed.behind i w.few

    -- those of the old records that are left, with what is left of record i
    more : (rs : List Record) → rest (record_here t i ∷ []) ≡ rs → records_here t j ++ rs ≡ rest (records_here s (i + 1))
    more rs is =
        ap₂ {C = List Record} (λ xs ys. xs ++ ys) w.records (sym is ∙ ap (λ (r : Record). rest (r ∷ [])) here) ∙ sym (rest_more w.by_one s i)

    -- record i goes
    pub settle-drop : rest (record_here t i ∷ []) ≡ [] → Settling rest s (i + 1) t j set
    settle-drop gone =
        record { by_one = w.by_one; records = sym (append-nil (records_here t j)) ∙ more [] gone; placed = w.placed; few = omega (arith, w.few) }

    -- it stays as it is: told by where it stands now
    pub stay-one : rest (record_here t i ∷ []) ≡ record_here t i ∷ [] → StayIn rest s i (i + 1)
    stay-one stays k lo hi = let e : k ≡ i = omega arith in rw (e, ← here) stays

    -- it stays, and is put behind those in front
    module _ (b m : ℕ) {t' : List ℕ} (set' : BlockSet) (whole : length s ≡ block_bytes * b) (inside : i < capacity b) (bytes : Every Byte t)
        (put : t' ≡ record_put t j (record_here t i).request m) (noted : Noted t j (record { request = (record_here t i).request; marks = m }) set set') where
      -- with some of its marks
      pub settle-put : (m ≤ (record_here t i).marks) × (rest (record_here t i ∷ []) ≡ record { request = (record_here t i).request; marks = m } ∷ [])
          → Settling rest s (i + 1) t' (j + 1) set'
      settle-put left =
          let long : length t ≡ block_bytes * b = w.placed.long ∙ whole in
          let q' = (record_here t i).request in
          let sized = length-request t b long i inside in
          let small : m < 4294967296 = omega (arith, left.0, (here-whole t b long bytes i inside).marks-fit) in
          let in' : j < capacity b = omega (arith, w.few) in
          record {
            by_one = w.by_one;
            records =
                ap (λ (l : List ℕ). records_here l (j + 1)) put
                ∙ records-more t b long j in' q' sized m small
                ∙ more (record { request = q'; marks = m } ∷ []) left.1;
            placed = placed-put w.placed b whole in' q' sized m small bytes put set' noted;
            few = omega (arith, w.few);
          }

      -- with all of them
      pub settle-move : m ≡ (record_here t i).marks → rest (record_here s i ∷ []) ≡ record_here s i ∷ [] → Settling rest s (i + 1) t' (j + 1) set'
      settle-move is stays =
          settle-put (
            omega (arith, is),
            ap (λ (r : Record). rest (r ∷ [])) here
                ∙ stays
                ∙ ap {B = List Record} (λ (r : Record). r ∷ []) (sym here)
                ∙ ap {B = List Record} (λ x. record { request = (record_here t i).request; marks = x } ∷ []) (sym is),
          )

  -- records that stay as they are stay where they are, while none has gone
  module _ {s t : List ℕ} {set : BlockSet} where
    stay : (i d : ℕ) → Settling rest s i t i set → StayIn rest s i (i + d) → Settling rest s (i + d) t (i + d) set
    stay i zero w same = rw (add-zero i) w
    stay i (suc d) w same =
        let e₁ : i + suc d ≡ i + d + 1 = omega arith in
        let v = stay i d w (λ k lo hi. same k lo (omega arith)) in
        rw e₁
        (record {
          by_one = v.by_one;
          records =
              records-one t (i + d)
              ∙ more v (record_here t (i + d) ∷ []) (rw (here v) (same (i + d) (omega arith) (omega arith)));
          placed = placed_on v.placed (i + d + 1) (omega arith);
          few = omega arith;
        })

    pub settle-stay : (i j next : ℕ) → Settling rest s i t j set → j ≡ i → i ≤ next → StayIn rest s i next → Settling rest s next t next set
    settle-stay i j next w front lo same =
        let d : i + (next - i) ≡ next = omega arith in
        rw d at (stay i (next - i) (rw front at w) (λ k l h. same k l (omega arith)))
