-- The records that are left of those in a table: of none, of one more, and all of them where no rule ends.
-- Assumes nothing.
use Prim.Native.Nat.{ℕ, zero, suc, ◌+◌, ◌-◌, ◌≤◌}
use native.Mathlib.Nat.{add-zero}
use native.Mathlib.Omega.{arith}
use mathlib.Core.Path.{◌≡◌, refl, sym, ap, ap₂, ◌∙◌}
use mathlib.Core.Bool.{Bool, true, false, cond, not}
use mathlib.Core.List.{List, [], ◌∷◌, ◌++◌, map, append-nil}
use lib.Bits.{and_zero_r, bit_and}
use lib.ListN.{length, length-append}
use lib.Dec.{eqb}
use borrow.Author.Tests.{eq-eqb, ne_eqb, eqb-true, eqb-false}
use Rattle.std.specs.List.{filter, range_with_len}
use Rattle.words.specs.Lists.{tab, keep}
use Rattle.word_laws.proofs.Keep.{keep_append, map-append}
use Rattle.word_laws.proofs.Lists.{length-tab, tab-next}
use Rattle.format.specs.Request.{Request}
use Rattle.format.specs.Table.{Record, has_mark}
use Rattle.format.specs.Records.{record_here, records_here}
use Rattle.judge.specs.NewTable.{sweep}
use Rattle.matching.specs.declared.masks.Each.{Each}
use Rattle.matching.specs.Masks.{apart_by, together_by}
use Rattle.clearing.specs.Cleared.{kept_marks, cleared_by, left_by}
use Rattle.clearing.specs.Settling.{OneByOne}

-- ---- lists of records

pub records-none : (s : List ℕ) → records_here s 0 ≡ []
unfolding records_here tab
records-none s = refl

pub records-one : (s : List ℕ) (n : ℕ) → records_here s (n + 1) ≡ records_here s n ++ (record_here s n ∷ [])
unfolding records_here
records-one s n = tab-next (record_here s) n

pub length-here : (s : List ℕ) (n : ℕ) → length (records_here s n) ≡ n
unfolding records_here
length-here s n = length-tab (record_here s) 0 n

-- what is left of them, record by record: of none, and of one more
module _ {rest : List Record → List Record} (o : OneByOne rest) (s : List ℕ) where
  pub rest-start : rest (records_here s 0) ≡ []
  rest-start = ap rest (records-none s) ∙ o.nothing

  pub rest_more : (i : ℕ) → rest (records_here s (i + 1)) ≡ rest (records_here s i) ++ rest (record_here s i ∷ [])
  rest_more i = ap rest (records-one s i) ∙ o.more (records_here s i) (record_here s i)

-- a record without a mark is swept away, and one with a mark stays
pub sweep-none : (r : Record) → r.marks ≡ 0 → sweep (r ∷ []) ≡ []
unfolding sweep keep
sweep-none r e = rw (eq-eqb r.marks 0 e)

pub sweep-one : (r : Record) → (r.marks ≡ 0 → ⊥) → sweep (r ∷ []) ≡ r ∷ []
unfolding sweep keep
sweep-one r e = rw (ne_eqb r.marks 0 e)

pub length-swept : (r : Record) → length (sweep (r ∷ [])) ≡ cond (eqb r.marks 0) 0 1
unfolding sweep keep
length-swept r = go (eqb r.marks 0)
  where
    go : (b : Bool) → length (cond (not b) (r ∷ []) []) ≡ cond b 0 1
    go true = refl
    go false = refl

-- where no rule ends, records with marks stay as they are, whatever the masks
pub same-records : (e : Each) (q : Request) (rs : List Record) → map (cleared_by e q 0) rs ≡ rs
unfolding cleared_by kept_marks together_by
same-records e q [] = refl
same-records e q (r ∷ rs) =
    ap₂ {C = List Record} (λ m xs. record { request = r.request; marks = m } ∷ xs) (go r.marks (bit_and 0 (apart_by e q r.request))) (same-records e q rs)
  where
    go : (m a : ℕ) → m - bit_and m (0 - a) ≡ m
    go m a = let z : 0 - a ≡ 0 = omega arith in rw (z, and_zero_r m) (omega arith)

pub left-all : (e : Each) (q : Request) (rs : List Record) → sweep rs ≡ rs → left_by e q 0 rs ≡ rs
unfolding left_by
left-all e q rs h = rw (same-records e q rs) h

module _ (e : Each) (q : Request) (ends : ℕ) where
  pub left-by-one : OneByOne (left_by e q ends)
  unfolding left_by sweep keep
  left-by-one =
      record {
        nothing = refl;
        more =
            λ rs r.
            ap (keep has_mark) (map-append (cleared_by e q ends) rs (r ∷ []))
            ∙ keep_append has_mark (map (cleared_by e q ends) rs) (cleared_by e q ends r ∷ []);
      }

  -- one record
  pub left-none : (r : Record) → (cleared_by e q ends r).marks ≡ 0 → left_by e q ends (r ∷ []) ≡ []
  unfolding left_by
  left-none r z = sweep-none (cleared_by e q ends r) z

  pub left_one : (r : Record) → ((cleared_by e q ends r).marks ≡ 0 → ⊥) → left_by e q ends (r ∷ []) ≡ cleared_by e q ends r ∷ []
  unfolding left_by
  left_one r z = sweep-one (cleared_by e q ends r) z

  -- with the marks that it keeps, which it had
  pub left-with : (r : Record) {m : ℕ} → m ≡ (cleared_by e q ends r).marks → (m ≡ 0 → ⊥)
      → (m ≤ r.marks) × (left_by e q ends (r ∷ []) ≡ record { request = r.request; marks = m } ∷ [])
  unfolding cleared_by kept_marks
  left-with r is some = (
    omega (arith, is),
    left_one r (λ z. some (is ∙ z)) ∙ ap {B = List Record} (λ x. record { request = r.request; marks = x } ∷ []) (sym is),
  )

  -- one record more of a table: it goes, or it stays
  left-count-none : (s : List ℕ) (i : ℕ) → (cleared_by e q ends (record_here s i)).marks ≡ 0
      → length (left_by e q ends (records_here s (i + 1))) ≡ length (left_by e q ends (records_here s i))
  left-count-none s i z =
      ap length (rest_more left-by-one s i ∙ ap (λ (l : List Record). left_by e q ends (records_here s i) ++ l) (left-none (record_here s i) z))
      ∙ ap length (append-nil (left_by e q ends (records_here s i)))

  left-count-one : (s : List ℕ) (i : ℕ) → ((cleared_by e q ends (record_here s i)).marks ≡ 0 → ⊥)
      → length (left_by e q ends (records_here s (i + 1))) ≡ length (left_by e q ends (records_here s i)) + 1
  left-count-one s i z =
      ap length (rest_more left-by-one s i)
      ∙ length-append (left_by e q ends (records_here s i)) (left_by e q ends (record_here s i ∷ []))
      ∙ ap (λ (l : List Record). length (left_by e q ends (records_here s i)) + length l) (left_one (record_here s i) z)

  -- so many of a run of records stay
  pub left-run :
      (s : List ℕ) (from d : ℕ) → length (left_by e q ends (records_here s (from + d)))
      ≡ length (left_by e q ends (records_here s from)) + length (filter (λ i. not (eqb (cleared_by e q ends (record_here s i)).marks 0)) (range_with_len from d))
  left-run s from zero = rw (add-zero from) (sym (add-zero (length (left_by e q ends (records_here s from)))))
  left-run s from (suc d) =
      let f : from + suc d ≡ from + 1 + d = omega arith in
      rw f (left-run s (from + 1) d ∙ go (eqb (cleared_by e q ends (record_here s from)).marks 0) refl (filter (λ i. not (eqb (cleared_by e q ends (record_here s i)).marks 0)) (range_with_len (from + 1) d)))
    where
      go : (b : Bool) → eqb (cleared_by e q ends (record_here s from)).marks 0 ≡ b → (xs : List ℕ)
          → length (left_by e q ends (records_here s (from + 1))) + length xs ≡ length (left_by e q ends (records_here s from)) + length (cond (not b) (from ∷ xs) xs)
      go true is xs = omega (arith, left-count-none s from (eqb-true _ 0 is))
      go false is xs = omega (arith, left-count-one s from (eqb-false _ 0 is))
