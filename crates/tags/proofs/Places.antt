-- Where a byte, and a row, stands first: what a search for it answers.
-- Assumes nothing.
use Prim.Native.Nat.{ℕ, suc, ◌+◌, ◌≤◌}
use native.Mathlib.Omega.{arith}
use mathlib.Core.Path.{◌≡◌, refl, sym, ◌∙◌}
use mathlib.Core.Bool.{Bool, true, false, cond, not}
use mathlib.Core.List.{List, [], ◌∷◌, map}
use borrow.Author.Tests.{ltb-false}
use lib.Dec.{eqb, ltb}
use lib.ListN.{length}
use Rattle.std.specs.declared.option.Option.{Option}
use Rattle.std.specs.declared.option.Option.TheVariants.{None, Some}
use Rattle.std.specs.Option.{unwrap_or}
use Rattle.std.specs.Borrow.{Bor}
use Rattle.std.specs.Cmp.Lexicographic.{pointwise}
use Rattle.std.specs.List.{position_or_len}
use Rattle.std.proofs.lemmas.List.Recursion.{is_position_or_len}
use Rattle.std.proofs.lemmas.List.Sums.{prefix_len-le-length}
use Rattle.words.specs.Lists.{same_list}
use Rattle.tags.specs.Cut.{until}
use Rattle.tags.specs.Rows.{place_of}

-- the place that was found, or the list's length
pub found_or-length : {A : Type 0} (p : A → Bool) (xs : List A) {o : Option ℕ}
    → o ≡ cond (ltb (position_or_len p xs) (length xs)) (Some (position_or_len p xs)) None
    → unwrap_or o (length xs) ≡ position_or_len p xs
found_or-length p xs e = rw e (go (ltb (position_or_len p xs) (length xs)) refl)
  where
    go : (b : Bool) → ltb (position_or_len p xs) (length xs) ≡ b → unwrap_or (cond b (Some (position_or_len p xs)) None) (length xs) ≡ position_or_len p xs
    go true e = refl
    go false e =
        let most : position_or_len p xs ≤ length xs = prefix_len-le-length (λ x. not (p x)) xs in
        let least = ltb-false (position_or_len p xs) (length xs) e in
        let same : length xs ≡ position_or_len p xs = omega arith in
        same

-- the first of a list of parts, by what each is
position-map : {A B : Type 0} (p : B → Bool) (f : A → B) (xs : List A) → position_or_len (λ x. p (f x)) xs ≡ position_or_len p (map f xs)
position-map p f [] = refl
position-map p f (x ∷ xs) = rw (position-map p f xs)

-- the first such byte, and the first such row
pub until-position : (c : ℕ) (t : List ℕ) → until c t ≡ position_or_len (λ b. eqb b c) t
unfolding until
until-position c t = is_position_or_len (until c) (λ b. eqb b c) refl (λ x xs. let e : 1 + until c xs ≡ suc (until c xs) = omega arith in rw e) t

pub place-position : (p : List ℕ) (ls : List (List ℕ)) → place_of p ls ≡ position_or_len (same_list p) ls
unfolding place_of
place-position p ls = is_position_or_len (place_of p) (same_list p) refl (λ x xs. let e : 1 + place_of p xs ≡ suc (place_of p xs) = omega arith in rw e) ls

-- the same among references
pub place_in : (p : List ℕ) (rs : List (Bor (List ℕ))) → position_or_len (λ r. same_list p r.now) rs ≡ place_of p (map (λ r. r.now) rs)
place_in p rs = position-map (same_list p) (λ r. r.now) rs ∙ sym (place-position p (map (λ r. r.now) rs))

-- two slices are compared as the definitions compare lists
pub compared : (xs ys : List ℕ) → pointwise eqb xs ys ≡ same_list xs ys
unfolding same_list
compared [] [] = refl
compared [] (y ∷ ys) = refl
compared (x ∷ xs) [] = refl
compared (x ∷ xs) (y ∷ ys) = rw (compared xs ys)
