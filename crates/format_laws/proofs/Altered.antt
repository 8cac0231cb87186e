-- `altered` tells blocks with equal records from others, and equal lists alter no block.
-- Assumes nothing.
use Prim.Native.Nat.{ℕ, zero, suc, ◌<◌}
use native.Mathlib.Nat.{zero-add}
use mathlib.Core.Path.{◌≡◌, refl, sym, ap, ap₂, ◌∙◌}
use mathlib.Core.Bool.{Bool, true, false, cond, not, false≢true}
use mathlib.Core.List.{List, [], ◌∷◌}
use borrow.Author.Tests.{eqb-true, eq-eqb}
use lib.ListN.{length, get_or}
use lib.Dec.{eqb}
use Rattle.words.specs.Lists.{same_list, sum_below, tab}
use Rattle.word_laws.proofs.Below.{sum_below-same}
use Rattle.word_laws.proofs.Same.{same_refl, same-eq}
use Rattle.word_laws.proofs.Tests.{both_first, both-second}
use Rattle.word_laws.proofs.Lists.{length-tab, get_d-tab}
use Rattle.format.specs.Table.{Record}
use Rattle.format.specs.Altered.{records_in, same_record, same_records, altered, altered_blocks}
use Rattle.format_laws.proofs.BlockImage.{no_record}

-- ---- records

pub record-refl : (r : Record) → same_record r r ≡ true
unfolding same_record
record-refl r = rw (same_refl r.request) (eq-eqb r.marks r.marks refl)

pub record-eq : (r r' : Record) → same_record r r' ≡ true → r ≡ r'
unfolding same_record
record-eq r r' e =
    let test : Bool = same_list r.request r'.request in
    ap₂ {C = Record} (λ q m. record { request = q; marks = m })
    (same-eq r.request r'.request (both_first test (eqb r.marks r'.marks) e))
    (eqb-true r.marks r'.marks (both-second test (eqb r.marks r'.marks) e))

pub record-swap : (r r' : Record) → same_record r r' ≡ false → same_record r' r ≡ false
record-swap r r' e = go (same_record r' r) refl
  where
    go : (b : Bool) → same_record r' r ≡ b → b ≡ false
    go true t = sym (record-refl r) ∙ ap (same_record r) (sym (record-eq r' r t)) ∙ e
    go false t = refl

-- ---- lists of them

records-refl : (rs : List Record) → same_records rs rs ≡ true
unfolding same_records
records-refl [] = refl
records-refl (r ∷ rs) = rw (record-refl r) (records-refl rs)

records-eq : (xs ys : List Record) → same_records xs ys ≡ true → xs ≡ ys
unfolding same_records
records-eq [] [] e = refl
records-eq [] (y ∷ ys) e = cc
records-eq (x ∷ xs) [] e = cc
records-eq (x ∷ xs) (y ∷ ys) e =
    ap₂ {C = List Record} (λ r rs. r ∷ rs)
    (record-eq x y (both_first (same_record x y) (same_records xs ys) e))
    (records-eq xs ys (both-second (same_record x y) (same_records xs ys) e))

-- ---- a block, of which the records before are f 0, f 1, .. and those after are g 0, g 1, ..

module _
    (before after : List Record) (k m n : ℕ) (f g : ℕ → Record) (was : records_in before k ≡ tab f 0 m) (is : records_in after k ≡ tab g 0 n) where
  -- the lists are the same, or the block is altered
  told : (records_in before k ≡ records_in after k → ⊥) → altered before after k ≡ true
  unfolding altered
  told other = go (same_records (records_in before k) (records_in after k)) refl
    where
      go : (b : Bool) → same_records (records_in before k) (records_in after k) ≡ b → not b ≡ true
      go true e = absurd (other (records-eq (records_in before k) (records_in after k) e))
      go false e = refl

  -- not as many
  pub altered-number : (m ≡ n → ⊥) → altered before after k ≡ true
  altered-number differs =
      told (λ e. differs (sym (length-tab f 0 m) ∙ ap length (sym was ∙ e ∙ is) ∙ length-tab g 0 n))

  -- another one at a place that both have
  pub altered-place : (i : ℕ) → i < m → i < n → same_record (f i) (g i) ≡ false → altered before after k ≡ true
  altered-place i l h differs =
      told
      (λ e.
      let here : f i ≡ g i =
      sym (get_d-tab f 0 m i no_record l ∙ ap f (zero-add i))
      ∙ ap (λ (rs : List Record). get_or rs i no_record) (sym was ∙ e ∙ is)
      ∙ (get_d-tab g 0 n i no_record h ∙ ap g (zero-add i)) in
      false≢true (sym differs ∙ ap (same_record (f i)) (sym here) ∙ record-refl (f i)))

pub altered-none : (before after : List Record) (k : ℕ) → records_in before k ≡ records_in after k → altered before after k ≡ false
unfolding altered
altered-none before after k e = rw (← e, records-refl (records_in before k))

-- ---- how many

pub blocks-none : (b : ℕ) (rs : List Record) → altered_blocks b rs rs ≡ 0
unfolding altered_blocks sum_below
blocks-none b rs = sum_below-same b (λ k. cond (altered rs rs k) 1 0) (λ k. 0) (λ k h. rw (altered-none rs rs k refl)) ∙ zeros b
  where
    zeros : (n : ℕ) → sum_below n (λ k. 0) ≡ 0
    zeros zero = refl
    zeros (suc n) = rw (zeros n)
