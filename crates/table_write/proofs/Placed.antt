-- Records put at their places, one after the other: the blocks noted are those in which one of them is another than before. With those that have
-- another number of records they are the blocks whose records differ; outside them an image stays one.
-- Assumes nothing.
use Prim.Native.Nat.{ℕ, ◌+◌, ◌*◌, ◌/◌, ◌%◌, ◌≤◌, ◌<◌}
use native.Mathlib.Decide.{dec_lt}
use native.Mathlib.Omega.{arith}
use mathlib.Core.Path.{◌≡◌, refl, sym, ap, ap₂, ◌∙◌}
use mathlib.Core.Bool.{Bool, true, false, cond, not, ◌&&◌, ◌||◌, false≢true, and-true, and-false, or-true}
use mathlib.Core.List.{List, ◌++◌}
use borrow.Author.Tests.{eqb-true, eqb-false, eq-eqb, ne_eqb, lt-leb, le-leb, lt-ltb, le-ltb}
use lib.ListN.{length, drop, take-append-drop}
use lib.Seq.{take-add, drop-drop}
use lib.Dec.{eqb, leb, ltb}
use Rattle.words.specs.Lists.{tab}
use Rattle.words.specs.Sums.{Sums}
use Rattle.words.specs.Bytes.{bytes4, part}
use Rattle.word_laws.proofs.Below.{sum_below-same}
use Rattle.word_laws.proofs.Every.{Every}
use Rattle.word_laws.proofs.Bytes.{Byte, bytes4-u32_at}
use Rattle.word_laws.proofs.Same.{same_refl}
use Rattle.word_laws.proofs.Tests.{neither-first, neither-second}
use Rattle.format.specs.Layout.{block_bytes, block_records, record_bytes, request_bytes, capacity}
use Rattle.format.specs.Block.{block}
use Rattle.format.specs.Table.{Record, record_at}
use Rattle.format.specs.Records.{record_start, record_from, record_here, records_here}
use Rattle.format.specs.Altered.{same_record, altered, altered_blocks}
use Rattle.format_laws.proofs.Altered.{record-eq, altered-number, altered-place, altered-none}
use Rattle.fields.specs.declared.blocks.BlockSet.{BlockSet}
use Rattle.fields.specs.Code.{HasRoom, has_block, no_block}
use Rattle.fields.proofs.BlockSets.{no-block}
use Rattle.table_write.specs.Writing.{over, count_in, ImageBut, OtherIn, Placed, Noted, size_of}
use Rattle.table_write.proofs.Records.{record_put, length-put, here_put, here-kept, block-kept, here-in-block, chunk-here}
use Rattle.table_write.proofs.TableWritten.{image-kept}

-- ---- a record that is put where it stands already

over-itself : (s : List ℕ) (at n : ℕ) → over s at n (part s at n) ≡ s
over-itself s at n = rw (← take-add at n s) (take-append-drop (at + n) s)

pub put_same : (s : List ℕ) → Every Byte s → (j : ℕ) → record_start j + record_bytes ≤ length s → (q : List ℕ) (m : ℕ)
    → same_record (record_here s j) (record { request = q; marks = m }) ≡ true → record_put s j q m ≡ s
put_same s bytes j inside q m same =
    let at = record_start j in
    let e = record-eq (record_here s j) (record { request = q; marks = m }) same in
    ap₂ {C = List ℕ} (λ (x : List ℕ) (y : ℕ). over s at record_bytes (x ++ bytes4 y)) (sym (ap (λ (r : Record). r.request) e)) (sym (ap (λ (r : Record). r.marks) e))
    ∙ ap (over s at record_bytes)
    (ap (λ (l : List ℕ). part s at request_bytes ++ l) (bytes4-u32_at s bytes (at + request_bytes) (omega arith))
    ∙ rw (take-add request_bytes 4 (drop at s), drop-drop))
    ∙ over-itself s at record_bytes

-- its block is noted if another stood there
pub noted-same : (s : List ℕ) (j : ℕ) (r : Record) (set : BlockSet) → same_record (record_here s j) r ≡ true → Noted s j r set set
noted-same s j r set same k = sym (ap (λ (b : Bool). (eqb k (j / block_records) && not b) || has_block set k) same ∙ ap (λ (b : Bool). b || has_block set k) (and-false (eqb k (j / block_records))))

pub noted_other :
    (s : List ℕ) (j : ℕ) (r : Record) (set set' : BlockSet) → same_record (record_here s j) r ≡ false
    → ((k : ℕ) → has_block set' k ≡ eqb k (j / block_records) || has_block set k) → Noted s j r set set'
noted_other s j r set set' differs grown k =
    grown k
    ∙ sym (ap (λ (b : Bool). (eqb k (j / block_records) && not b) || has_block set k) differs ∙ ap (λ (b : Bool). b || has_block set k) (and-true (eqb k (j / block_records))))

pub noted-known :
    (s : List ℕ) (j : ℕ) (r : Record) (set : BlockSet) → has_block set (j / block_records) ≡ true → Noted s j r set set
noted-known s j r set known k = go (eqb k (j / block_records)) refl
  where
    go : (b : Bool) → eqb k (j / block_records) ≡ b → has_block set k ≡ (b && not (same_record (record_here s j) r)) || has_block set k
    go true e = let on : has_block set k ≡ true = ap (has_block set) (eqb-true k (j / block_records) e) ∙ known in rw on (sym (or-true (not (same_record (record_here s j) r))))
    go false e = refl

-- with its own request only the marks are compared
pub same-marks : (r : Record) (m : ℕ) → same_record r (record { request = r.request; marks = m }) ≡ eqb r.marks m
unfolding same_record
same-marks r m = rw (same_refl r.request)

-- so a place has been filled: where its block is noted already,
module _ (s : List ℕ) (j to : ℕ) (at : to ≡ record_start j) (q q' : List ℕ) (is : q ≡ q') (m : ℕ) (set : BlockSet) where
  pub filled-known : {s' : List ℕ} → has_block set (j / block_records) ≡ true → s' ≡ over s to record_bytes (q ++ bytes4 m)
      → (s' ≡ record_put s j q' m) × Noted s j (record { request = q'; marks = m }) set set
  filled-known known put = (
    put ∙ ap₂ {C = List ℕ} (λ (x : ℕ) (y : List ℕ). over s x record_bytes (y ++ bytes4 m)) at is,
    noted-known s j (record { request = q'; marks = m }) set known,
  )

-- and as told by what stood there, at a byte
module _ (s : List ℕ) (j to : ℕ) (at : to ≡ record_start j) (q q' : List ℕ) (is : q ≡ q') (m : ℕ) {b : Bool}
    (told : b ≡ same_record (record_from s to) (record { request = q; marks = m })) (set : BlockSet) where
  stood : b ≡ same_record (record_here s j) (record { request = q'; marks = m })
  stood = told ∙ ap₂ {C = Bool} (λ (x : ℕ) (y : List ℕ). same_record (record_from s x) (record { request = y; marks = m })) at is

  pub filled-before : Every Byte s → record_start j + record_bytes ≤ length s → b ≡ true
      → (s ≡ record_put s j q' m) × Noted s j (record { request = q'; marks = m }) set set
  filled-before bytes inside same =
      (sym (put_same s bytes j inside q' m (sym stood ∙ same)), noted-same s j (record { request = q'; marks = m }) set (sym stood ∙ same))

  pub filled-now : {s' : List ℕ} (set' : BlockSet) → b ≡ false → s' ≡ over s to record_bytes (q ++ bytes4 m)
      → ((k : ℕ) → has_block set' k ≡ eqb k (j / block_records) || has_block set k)
      → (s' ≡ record_put s j q' m) × Noted s j (record { request = q'; marks = m }) set set'
  filled-now set' differs put grown = (
    put ∙ ap₂ {C = List ℕ} (λ (x : ℕ) (y : List ℕ). over s x record_bytes (y ++ bytes4 m)) at is,
    noted_other s j (record { request = q'; marks = m }) set set' (sym stood ∙ differs) grown,
  )

-- ---- none, and one more

pub placed-start : (s : List ℕ) → Placed s s 0 no_block
placed-start s =
    record {
      long = refl;
      behind = λ i h. refl;
      same = λ k off. refl;
      other = λ k on. absurd (false≢true (sym (no-block k) ∙ on));
    }

-- a further place
further : {s s' : List ℕ} {n k : ℕ} (n' : ℕ) → n ≤ n' → OtherIn s s' n k → OtherIn s s' n' k
further n' h o = record { place = o.place; within = o.within; below = omega (arith, o.below); differs = o.differs }

-- the records up to another place stay as they stand
pub placed_on : {s s' : List ℕ} {n : ℕ} {set : BlockSet} → Placed s s' n set → (n' : ℕ) → n ≤ n' → Placed s s' n' set
placed_on p n' h =
    record { long = p.long; behind = λ i l. p.behind i (omega arith); same = p.same; other = λ k on. further n' h (p.other k on) }

-- and the room is the same
pub room-placed : {s s' : List ℕ} {j n : ℕ} {set : BlockSet} → Placed s s' j set → HasRoom s n → HasRoom s' n
room-placed p h = record { whole = omega (arith, p.long, h.whole); most = omega (arith, p.long, h.most); few = omega (arith, p.long, h.few) }

module _ {s s' : List ℕ} {j : ℕ} {set : BlockSet} (p : Placed s s' j set) (b : ℕ) (whole : length s ≡ block_bytes * b) (inside : j < capacity b)
    (q : List ℕ) (sized : length q ≡ request_bytes) (m : ℕ) (small : m < 4294967296) (bytes : Every Byte s') {s'' : List ℕ} (put : s'' ≡ record_put s' j q m)
    (set' : BlockSet) (noted : Noted s' j (record { request = q; marks = m }) set set') where
  long' : length s' ≡ block_bytes * b
  long' = p.long ∙ whole

  -- it stands there already
  placed_same : same_record (record_here s' j) (record { request = q; marks = m }) ≡ true → Placed s s'' (j + 1) set'
  placed_same same =
      let stays : s'' ≡ s' = put ∙ put_same s' bytes j (omega (arith, long')) q m same in
      let as_before : (k : ℕ) → has_block set' k ≡ has_block set k =
      λ k. noted k ∙ ap (λ (b : Bool). (eqb k (j / block_records) && not b) || has_block set k) same
      ∙ ap (λ (b : Bool). b || has_block set k) (and-false (eqb k (j / block_records))) in
      let on = placed_on p (j + 1) (omega arith) in
      record {
        long = ap length stays ∙ on.long;
        behind = λ i h. ap (λ (l : List ℕ). record_here l i) stays ∙ on.behind i h;
        same = λ k off. ap (λ (l : List ℕ). block l k) stays ∙ on.same k (sym (as_before k) ∙ off);
        other = λ k yes. rw stays (on.other k (sym (as_before k) ∙ yes));
      }

  -- another stood there
  placed-other : same_record (record_here s' j) (record { request = q; marks = m }) ≡ false → Placed s s'' (j + 1) set'
  placed-other differs =
      record {
        long = ap length put ∙ length-put s' b long' j inside q sized m ∙ p.long;
        behind = λ i h. kept i (λ z. omega arith) ∙ p.behind i (omega arith);
        same =
            λ k off.
            let none = sym (grown k) ∙ off in
            ap (λ (l : List ℕ). block l k) put
            ∙ block-kept s' b long' j inside q sized m k (eqb-false k (j / block_records) (neither-first (eqb k (j / block_records)) (has_block set k) none))
            ∙ p.same k (neither-second (eqb k (j / block_records)) (has_block set k) none);
        other = λ k on. go k (sym (grown k) ∙ on) (eqb k (j / block_records)) refl;
      }
    where
      grown : (k : ℕ) → has_block set' k ≡ eqb k (j / block_records) || has_block set k
      grown k =
          noted k ∙ ap (λ (b : Bool). (eqb k (j / block_records) && not b) || has_block set k) differs
          ∙ ap (λ (b : Bool). b || has_block set k) (and-true (eqb k (j / block_records)))

      kept : (i : ℕ) → (i ≡ j → ⊥) → record_here s'' i ≡ record_here s' i
      kept i apart = ap (λ (l : List ℕ). record_here l i) put ∙ here-kept s' b long' j inside q sized m i apart

      here : record_here s'' j ≡ record { request = q; marks = m }
      here = ap (λ (l : List ℕ). record_here l j) put ∙ here_put s' b long' j inside q sized m small

      go : (k : ℕ) → eqb k (j / block_records) || has_block set k ≡ true → (c : Bool) → eqb k (j / block_records) ≡ c → OtherIn s s'' (j + 1) k
      go k on true e =
          record {
            place = j;
            within = sym (eqb-true k (j / block_records) e);
            below = omega arith;
            differs = ap₂ {C = Bool} same_record (sym (p.behind j (omega arith))) here ∙ differs;
          }
      go k on false e =
          let o = p.other k (ap (λ (c : Bool). c || has_block set k) (sym e) ∙ on) in
          record {
            place = o.place;
            within = o.within;
            below = omega (arith, o.below);
            differs = ap (same_record (record_here s o.place)) (kept o.place (λ z. omega (arith, o.below))) ∙ o.differs;
          }

  pub placed-put : Placed s s'' (j + 1) set'
  placed-put = go (same_record (record_here s' j) (record { request = q; marks = m })) refl
    where
      go : (c : Bool) → same_record (record_here s' j) (record { request = q; marks = m }) ≡ c → Placed s s'' (j + 1) set'
      go true e = placed_same e
      go false e = placed-other e

-- ---- all of them

-- the blocks that have more records when there are more
pub grown-blocks :
    (fewer more end k : ℕ) → fewer < more → end ≡ (more + 14) / block_records
    → leb (fewer / block_records) k && ltb k end ≡ not (eqb (count_in fewer k) (count_in more k))
grown-blocks fewer more end k h at = go (dec_lt k (fewer / block_records)) (dec_lt k end)
  where
    go : Dec (k < fewer / block_records) → Dec (k < end) → leb (fewer / block_records) k && ltb k end ≡ not (eqb (count_in fewer k) (count_in more k))
    go (yes l) d = rw (lt-leb (fewer / block_records) k l, eq-eqb (count_in fewer k) (count_in more k) (omega arith))
    go (no g) (yes l) =
        rw (le-leb (fewer / block_records) k (omega arith), lt-ltb k end l, ne_eqb (count_in fewer k) (count_in more k) (λ e. omega arith))
    go (no g) (no m) =
        rw (le-leb (fewer / block_records) k (omega arith), le-ltb k end (omega arith), eq-eqb (count_in fewer k) (count_in more k) (omega arith))

-- n records became n'
module _ {s s' : List ℕ} {n' : ℕ} {set : BlockSet} (p : Placed s s' n' set) (n : ℕ) (set' : BlockSet)
    (resized : (k : ℕ) → has_block set' k ≡ not (eqb (count_in n k) (count_in n' k)) || has_block set k) where
  -- a block outside the set has its bytes and its number of records
  outside : (k : ℕ) → has_block set' k ≡ false → (block s' k ≡ block s k) × (count_in n' k ≡ count_in n k)
  outside k off =
      let none = sym (resized k) ∙ off in
      (p.same k (neither-second (not (eqb (count_in n k) (count_in n' k))) (has_block set k) none), number (eqb (count_in n k) (count_in n' k)) refl (neither-first (not (eqb (count_in n k) (count_in n' k))) (has_block set k) none))
    where
      number : (c : Bool) → eqb (count_in n k) (count_in n' k) ≡ c → not (eqb (count_in n k) (count_in n' k)) ≡ false → count_in n' k ≡ count_in n k
      number true e h = sym (eqb-true (count_in n k) (count_in n' k) e)
      number false e h = absurd (false≢true (sym h ∙ ap not e))

  -- so an image stays one outside the set
  pub placed-image : (t : Sums) → ImageBut t s n no_block → ImageBut t s' n' set'
  placed-image t but =
      record {
        outside =
            λ k h off.
            image-kept t s s' n n' k (ap (λ (x : ℕ). x / block_bytes) p.long) (outside k off).0 (outside k off).1
            (but.outside k (omega (arith, p.long)) (no-block k));
      }

  -- and the blocks of the set are those whose records differ
  pub placed-altered : (k : ℕ) → has_block set' k ≡ altered (records_here s n) (records_here s' n') k
  placed-altered k = go (has_block set' k) refl
    where
      was : ℕ
      was = count_in n k

      is : ℕ
      is = count_in n' k

      at : List ℕ → ℕ → Record
      at l = record_at (block l k)

      another : OtherIn s s' n' k → was ≡ is → altered (records_here s n) (records_here s' n') k ≡ true
      another o many =
          let i : ℕ = o.place % block_records in
          let e : block_records * k + i ≡ o.place = omega (arith, o.within) in
          let low : i < block_records = omega arith in
          let below : i < count_in n' k = omega (arith, o.within, o.below) in
          altered-place (records_here s n) (records_here s' n') k was is (at s) (at s') (chunk-here s n k) (chunk-here s' n' k) i (omega (arith, many, below)) below
          (ap₂ {C = Bool} same_record (sym (here-in-block s k i low) ∙ ap (record_here s) e) (sym (here-in-block s' k i low) ∙ ap (record_here s') e) ∙ o.differs)

      number : (c : Bool) → eqb was is ≡ c → not (eqb was is) || has_block set k ≡ true → altered (records_here s n) (records_here s' n') k ≡ true
      number true e on = another (p.other k (ap (λ (c : Bool). not c || has_block set k) (sym e) ∙ on)) (eqb-true was is e)
      number false e on = altered-number (records_here s n) (records_here s' n') k was is (at s) (at s') (chunk-here s n k) (chunk-here s' n' k) (eqb-false was is e)

      go : (c : Bool) → has_block set' k ≡ c → c ≡ altered (records_here s n) (records_here s' n') k
      go true e = sym (number (eqb was is) refl (sym (resized k) ∙ e))
      go false e =
          let o = outside k e in
          sym
          (altered-none (records_here s n) (records_here s' n') k
          (chunk-here s n k ∙ ap₂ {C = List Record} (λ (l : List ℕ) (c : ℕ). tab (record_at l) 0 c) (sym o.0) (sym o.1) ∙ sym (chunk-here s' n' k)))

  pub placed-size : (b : ℕ) → size_of b set' ≡ altered_blocks b (records_here s n) (records_here s' n')
  unfolding size_of altered_blocks
  placed-size b =
      sum_below-same b (λ k. cond (has_block set' k) 1 0) (λ k. cond (altered (records_here s n) (records_here s' n') k) 1 0)
      (λ k h. ap (λ (c : Bool). cond c 1 0) (placed-altered k))
