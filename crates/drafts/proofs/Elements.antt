-- The row of a list's elements, each as bytes of one width: with one element more, and read.
-- Assumes nothing.
use Prim.Native.Nat.{ℕ, zero, suc, ◌+◌, ◌*◌, ◌≤◌, ◌<◌}
use native.Mathlib.Omega.{arith}
use mathlib.Core.Path.{◌≡◌, refl, sym, ap, ◌∙◌}
use mathlib.Core.List.{List, [], ◌∷◌, ◌++◌, flatten}
use lib.ListN.{length, get_or}
use lib.Seq.{get_or-append_seam}
use Rattle.words.specs.Lists.{tab}
use Rattle.words.specs.Bytes.{part}
use Rattle.word_laws.proofs.Lists.{tab-cong}
use Rattle.table_write.specs.Writing.{over}
use Rattle.drafts.proofs.Rows.{part-put, part_of}

-- one element more stands where the list ended, and all else stays
get_d-last : {A : Type 0} (xs : List A) (x d : A) (i : ℕ) → i ≡ length xs → get_or (xs ++ (x ∷ [])) i d ≡ x
get_d-last xs x d i e = rw e (get_or-append_seam xs x [] d)

get_d_kept : {A : Type 0} (xs : List A) (x d : A) (i : ℕ) → (i ≡ length xs → ⊥) → get_or xs i d ≡ get_or (xs ++ (x ∷ [])) i d
get_d_kept [] x d zero h = absurd (h refl)
get_d_kept [] x d (suc i) h = refl
get_d_kept (y ∷ xs) x d zero h = refl
get_d_kept (y ∷ xs) x d (suc i) h = get_d_kept xs x d i (λ e. h (omega arith))

module _ {A : Type 0} (image : A → List ℕ) (blank : A) where
  -- n places, the list's elements in the first of them
  abbrev pub row : List A → ℕ → List ℕ
  row xs n = flatten (tab (λ i. image (get_or xs i blank)) 0 n)

  -- in a full row one element more has no place
  pub row-full : (xs : List A) (x : A) (n : ℕ) → n ≤ length xs → row xs n ≡ row (xs ++ (x ∷ [])) n
  row-full xs x n h =
      ap flatten
      (tab-cong (λ i. image (get_or xs i blank)) (λ i. image (get_or (xs ++ (x ∷ [])) i blank)) 0 n
      (λ j lo hi. ap image (get_d_kept xs x blank j (λ e. omega arith))))

  module _ (w : ℕ) (wide : (x : A) → length (image x) ≡ w) (p r : List ℕ) (at n : ℕ) (e : length p ≡ at) (xs : List A) (i : ℕ) (h : i < n) where
    -- one element more, written behind the others
    pub row_more : (x : A) → i ≡ length xs → over (p ++ row xs n ++ r) (at + w * i) w (image x) ≡ p ++ row (xs ++ (x ∷ [])) n ++ r
    row_more x here =
        ap (λ y. over (p ++ row xs n ++ r) (at + w * i) w (image y)) (sym (get_d-last xs x blank i here))
        ∙ part-put w (λ j. image (get_or xs j blank)) (λ j. wide (get_or xs j blank)) p r at n i e h (λ j. image (get_or (xs ++ (x ∷ [])) j blank))
        (λ j b. ap image (get_d_kept xs x blank j (λ z. b (z ∙ sym here))))

    -- element i, read
    pub row_read : part (p ++ row xs n ++ r) (at + w * i) w ≡ image (get_or xs i blank)
    row_read = part_of w (λ j. image (get_or xs j blank)) (λ j. wide (get_or xs j blank)) p r at n i e h
