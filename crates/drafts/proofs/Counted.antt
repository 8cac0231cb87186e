-- A block in which a count, capped at 9, stands before a row of eight places: one element more.
-- Assumes nothing.
use Prim.Native.Nat.{ℕ, ◌+◌, ◌*◌, ◌≤◌, ◌<◌, min}
use native.Mathlib.Omega.{arith}
use mathlib.Core.Path.{◌≡◌, ap, ap₂, ◌∙◌}
use mathlib.Core.List.{List, [], ◌∷◌, ◌++◌}
use lib.ListN.{length, get_or, set, length-append}
use Rattle.table_write.specs.Writing.{over}
use Rattle.drafts.proofs.Elements.{row, row-full, row_more}

-- the elements' images have the width w; the row begins at byte `at`, before it stands what `front` makes of the count, whose byte is k
module _
    {A : Type 0} (image : A → List ℕ) (blank : A) (w : ℕ) (wide : (x : A) → length (image x) ≡ w) (front : ℕ → List ℕ) (rest : List ℕ) (at k : ℕ)
    (long : (n : ℕ) → length (front n) ≡ at) (reads : (n : ℕ) (l : List ℕ) → get_or (front n ++ l ++ rest) k 0 ≡ n)
    (writes : (n v : ℕ) (l : List ℕ) → set (front n ++ l ++ rest) k v ≡ front v ++ l ++ rest) where
  -- the block of a list
  abbrev block_of : List A → List ℕ
  block_of xs = front (min 9 (length xs)) ++ row image blank xs 8 ++ rest

  -- such a block b, whose count was read and v written for it
  module _ (xs : List A) (x : A) (b : List ℕ) (is : b ≡ block_of xs) (v : ℕ) (wrote : v ≡ min 9 (get_or b k 0 + 1)) where
    count : get_or b k 0 ≡ min 9 (length xs)
    count = ap (λ (l : List ℕ). get_or l k 0) is ∙ reads (min 9 (length xs)) (row image blank xs 8)

    more : min 9 (get_or b k 0 + 1) ≡ min 9 (length (xs ++ (x ∷ [])))
    more = rw length-append (omega (arith, count))

    counted : set b k v ≡ front (min 9 (length (xs ++ (x ∷ [])))) ++ row image blank xs 8 ++ rest
    counted =
        ap₂ {C = List ℕ} (λ l y. set l k y) is (wrote ∙ more)
        ∙ writes (min 9 (length xs)) (min 9 (length (xs ++ (x ∷ [])))) (row image blank xs 8)

    -- an element that has a place is stored there
    pub more-stored : (n : ℕ) {b' : List ℕ} → n ≡ get_or b k 0 → n < 8 → b' ≡ over (set b k v) (at + w * n) w (image x) → b' ≡ block_of (xs ++ (x ∷ []))
    more-stored n e h put =
        put
        ∙ ap (λ (l : List ℕ). over l (at + w * n) w (image x)) counted
        ∙ row_more image blank w wide (front (min 9 (length (xs ++ (x ∷ []))))) rest at 8 (long (min 9 (length (xs ++ (x ∷ []))))) xs n h x
        (omega (arith, count))

    -- one that has none is counted alone
    pub more-counted : 8 ≤ get_or b k 0 → set b k v ≡ block_of (xs ++ (x ∷ []))
    more-counted h =
        counted
        ∙ ap (λ (l : List ℕ). front (min 9 (length (xs ++ (x ∷ [])))) ++ l ++ rest) (row-full image blank xs x 8 (omega (arith, count)))
