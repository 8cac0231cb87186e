-- Which row a beginning is, looked for row by row, and what a row says.
-- Assumes nothing.
use Prim.Native.Nat.{ℕ, suc, ◌+◌, ◌≤◌, ◌<◌}
use native.Mathlib.Omega.{arith}
use native.Mathlib.Numerals.{add-one}
use mathlib.Core.Path.{◌≡◌, refl, ◌∙◌}
use mathlib.Core.Bool.{Bool, true, false, cond}
use mathlib.Core.List.{List, [], ◌∷◌, map}
use lib.ListN.{length, get_or, drop, get_or-eq_default}
use lib.Seq.{drop-cons, drop-length}
use Rattle.words.specs.Lists.{same_list}
use Rattle.xml.specs.Tags.{Row, rows, saying, other}
use Rattle.tags.specs.Rows.{place_of, beginning_of, beginnings, beginning, row_of, said_by}
use Rattle.tags.proofs.RowTable.{lengths-below, sixteen}
use Rattle.tags.proofs.Compared.{same-lengths}

-- ---- one row after the other

module _ (p : List ℕ) (ls : List (List ℕ)) (k : ℕ) (h : k < length ls) where
  -- the place is found at row k, or is looked for behind it
  place_at : place_of p (drop k ls) ≡ cond (same_list p (get_or ls k [])) 0 (suc (place_of p (drop (k + 1) ls)))
  unfolding place_of
  place_at = rw (add-one k, drop-cons ls k [] h)

  pub place_here : same_list p (get_or ls k []) ≡ true → place_of p (drop k ls) ≡ 0
  place_here e = rw e at place_at

  pub place-later : same_list p (get_or ls k []) ≡ false → place_of p (drop k ls) ≡ suc (place_of p (drop (k + 1) ls))
  place-later e = rw e at place_at

-- behind the last row nothing is found
pub place_end : (p : List ℕ) (ls : List (List ℕ)) → place_of p (drop (length ls) ls) ≡ 0
unfolding place_of
place_end p ls = rw (drop-length ls)

-- where no row is p, the place is the number of rows
place_none : (p : List ℕ) (ls : List (List ℕ)) → ((k : ℕ) → k < length ls → same_list p (get_or ls k []) ≡ false) → place_of p ls ≡ length ls
unfolding place_of
place_none p [] h = refl
place_none p (x ∷ xs) h = rw (h 0 (omega arith), place_none p xs (λ k l. h (suc k) (omega arith)))

-- a text of more than 28 bytes is no row's beginning
pub too_long : (p : List ℕ) → 28 < length p → row_of p ≡ 16
too_long p h =
    place_none p beginnings (λ k l. same-lengths p (beginning k) (λ e. omega (arith, lengths-below k (rw sixteen at l), e))) ∙ sixteen

-- ---- what a row says

-- what is said is what the row at the place says
saying-place :
    (p : List ℕ) (rs : List Row) → saying p rs ≡ get_or (map (λ (r : Row). r.says) rs) (place_of p (map beginning_of rs)) other
unfolding saying place_of
saying-place p [] = refl
saying-place p (r ∷ rs) = go (saying-place p rs) (same_list p (beginning_of r))
  where
    go :
        saying p rs ≡ get_or (map (λ (r : Row). r.says) rs) (place_of p (map beginning_of rs)) other → (b : Bool)
        → cond b r.says (saying p rs) ≡ get_or (r.says ∷ map (λ (r : Row). r.says) rs) (cond b 0 (suc (place_of p (map beginning_of rs)))) other
    go ih true = refl
    go ih false = ih

-- what a beginning says with two values is what its row says with them
pub saying-row : (p one two : List ℕ) → saying p (rows one two) ≡ said_by (row_of p) one two
unfolding said_by beginnings rows
saying-row p one two = saying-place p (rows one two)

-- no row says anything past the sixteenth
pub no_row : (k : ℕ) (one two : List ℕ) → 16 ≤ k → said_by k one two ≡ other
unfolding said_by rows
no_row k one two h = get_or-eq_default (map (λ (r : Row). r.says) (rows one two)) other h
