-- A text in pieces: the first piece and those behind it, and that squeezing the text squeezes its pieces.
-- Assumes nothing.
use Prim.Native.Nat.{ℕ, zero, suc, ◌≤◌, ◌<◌}
use native.Mathlib.Omega.{arith}
use mathlib.Core.Path.{◌≡◌, refl, sym, ap, ◌∙◌}
use mathlib.Core.Bool.{Bool, true, false, cond, not}
use mathlib.Core.List.{List, [], ◌∷◌, map}
use borrow.Author.Tests.{eqb-true}
use lib.Dec.{eqb}
use lib.ListN.{length, get_or, take, drop}
use Rattle.words.specs.Lists.{keep}
use Rattle.forms.specs.Form.{space, is_of}
use Rattle.xml.specs.Tags.{on_first, ended, parted, squeezed}
use Rattle.tags.specs.Cut.{until}

-- ---- where a byte stands first

-- it stands in the text, or at its end
pub until-within : (c : ℕ) (t : List ℕ) → until c t ≤ length t
unfolding until
until-within c [] = omega arith
until-within c (b ∷ t) = go (until-within c t) (eqb b c)
  where
    go : until c t ≤ length t → (x : Bool) → cond x 0 (suc (until c t)) ≤ suc (length t)
    go h true = omega arith
    go h false = omega arith

-- ---- pieces that a byte parts

-- a byte in front of the first piece leaves the others as they are
on_first-next : (b : ℕ) (ps : List (List ℕ)) (i : ℕ) → get_or (on_first b ps) (suc i) [] ≡ get_or ps (suc i) []
unfolding on_first
on_first-next b [] i = refl
on_first-next b (p ∷ ps) i = refl

-- there is a first piece, and it ends before the first c
parted-front : (c : ℕ) (t : List ℕ) → parted c t ≡ take (until c t) t ∷ drop 1 (parted c t)
unfolding parted until on_first
parted-front c [] = refl
parted-front c (b ∷ t) = go (parted-front c t) (eqb b c)
  where
    go :
        parted c t ≡ take (until c t) t ∷ drop 1 (parted c t) → (x : Bool)
        → cond x ([] ∷ parted c t) (on_first b (parted c t))
        ≡ take (cond x 0 (suc (until c t))) (b ∷ t) ∷ drop 1 (cond x ([] ∷ parted c t) (on_first b (parted c t)))
    go h true = refl
    go h false = rw h

-- the same of its place
pub parted-first : (c : ℕ) (t : List ℕ) → get_or (parted c t) 0 [] ≡ take (until c t) t
parted-first c t = ap (λ (ps : List (List ℕ)). get_or ps 0 []) (parted-front c t)

-- the others are those of what stands behind the first c; missing pieces are empty
pub parted-next : (c : ℕ) (t : List ℕ) (i : ℕ) → get_or (parted c t) (suc i) [] ≡ get_or (parted c (drop (suc (until c t)) t)) i []
unfolding parted until
parted-next c [] zero = refl
parted-next c [] (suc i) = refl
parted-next c (b ∷ t) i = go (parted-next c t i) (eqb b c)
  where
    go :
        get_or (parted c t) (suc i) [] ≡ get_or (parted c (drop (suc (until c t)) t)) i [] → (x : Bool)
        → get_or (cond x ([] ∷ parted c t) (on_first b (parted c t))) (suc i) [] ≡ get_or (parted c (drop (cond x 0 (suc (until c t))) t)) i []
    go h true = refl
    go h false = on_first-next b (parted c t) i ∙ h

-- ---- piece by piece

-- a way to cut a text at each c cuts off what stands before the first c, and then what is behind it
module _ (c : ℕ) (f : List ℕ → List (List ℕ)) (more : (b : ℕ) (t : List ℕ) → f (b ∷ t) ≡ cond (eqb b c) ([] ∷ f t) (on_first b (f t))) where
  cut-more : (t : List ℕ) → until c t < length t → f t ≡ take (until c t) t ∷ f (drop (suc (until c t)) t)
  unfolding until on_first
  cut-more [] h = absurd (omega arith)
  cut-more (b ∷ t) h = rw (more b t) (go (cut-more t) (eqb b c) h)
    where
      go :
          (until c t < length t → f t ≡ take (until c t) t ∷ f (drop (suc (until c t)) t)) → (x : Bool)
          → cond x 0 (suc (until c t)) < suc (length t)
          → cond x ([] ∷ f t) (on_first b (f t)) ≡ take (cond x 0 (suc (until c t))) (b ∷ t) ∷ f (drop (cond x 0 (suc (until c t))) t)
      go ih true k = refl
      go ih false k = rw (ih (omega arith))

-- a piece ends at the first c
pub ended-more : (c : ℕ) (t : List ℕ) → until c t < length t → ended c t ≡ take (until c t) t ∷ ended c (drop (suc (until c t)) t)
unfolding ended
ended-more c = cut-more c (ended c) (λ b t. refl)

-- the first c parts the first piece from the others
pub parted-more : (c : ℕ) (t : List ℕ) → until c t < length t → parted c t ≡ take (until c t) t ∷ parted c (drop (suc (until c t)) t)
unfolding parted
parted-more c = cut-more c (parted c) (λ b t. refl)

-- where there is no c, all is one piece
pub parted-none : (c : ℕ) (t : List ℕ) → length t ≤ until c t → parted c t ≡ t ∷ []
unfolding parted until on_first
parted-none c [] h = refl
parted-none c (b ∷ t) h = go (parted-none c t) (eqb b c) h
  where
    go :
        (length t ≤ until c t → parted c t ≡ t ∷ []) → (x : Bool) → suc (length t) ≤ cond x 0 (suc (until c t))
        → cond x ([] ∷ parted c t) (on_first b (parted c t)) ≡ (b ∷ t) ∷ []
    go ih true k = absurd (omega arith)
    go ih false k = rw (ih (omega arith))

-- where there is no c, no piece ends
pub ended-none : (c : ℕ) (t : List ℕ) → length t ≤ until c t → ended c t ≡ []
unfolding ended until on_first
ended-none c [] h = refl
ended-none c (b ∷ t) h = go (ended-none c t) (eqb b c) h
  where
    go :
        (length t ≤ until c t → ended c t ≡ []) → (x : Bool) → suc (length t) ≤ cond x 0 (suc (until c t))
        → cond x ([] ∷ ended c t) (on_first b (ended c t)) ≡ []
    go ih true k = absurd (omega arith)
    go ih false k = rw (ih (omega arith))

-- ---- squeezing

-- a byte that is white space, and one that is not, in front of a text
pub squeezed-white : (b : ℕ) (t : List ℕ) → is_of space b ≡ true → squeezed (b ∷ t) ≡ squeezed t
unfolding squeezed keep
squeezed-white b t h = rw h

pub squeezed-kept : (b : ℕ) (t : List ℕ) → is_of space b ≡ false → squeezed (b ∷ t) ≡ b ∷ squeezed t
unfolding squeezed keep
squeezed-kept b t h = rw h

-- the same in front of the first of the pieces
on_first-white : (b : ℕ) (ps : List (List ℕ)) → is_of space b ≡ true → map squeezed (on_first b ps) ≡ map squeezed ps
unfolding on_first
on_first-white b [] h = refl
on_first-white b (p ∷ ps) h = rw (squeezed-white b p h)

on_first-kept : (b : ℕ) (ps : List (List ℕ)) → is_of space b ≡ false → map squeezed (on_first b ps) ≡ on_first b (map squeezed ps)
unfolding on_first
on_first-kept b [] h = refl
on_first-kept b (p ∷ ps) h = rw (squeezed-kept b p h)

-- a way to cut a text at a byte that is no white space cuts the squeezed text into the squeezed pieces
module _ (c : ℕ) (f : List ℕ → List (List ℕ)) (kept : is_of space c ≡ false) (none : f [] ≡ map squeezed (f []))
    (more : (b : ℕ) (t : List ℕ) → f (b ∷ t) ≡ cond (eqb b c) ([] ∷ f t) (on_first b (f t))) where
  cut-squeezed : (t : List ℕ) → f (squeezed t) ≡ map squeezed (f t)
  unfolding squeezed keep
  cut-squeezed [] = none
  cut-squeezed (b ∷ t) = rw (more b t) (go (cut-squeezed t) (is_of space b) refl (eqb b c) refl)
    where
      go :
          f (squeezed t) ≡ map squeezed (f t) → (w : Bool) → is_of space b ≡ w → (x : Bool) → eqb b c ≡ x
          → f (cond (not w) (b ∷ squeezed t) (squeezed t)) ≡ map squeezed (cond x ([] ∷ f t) (on_first b (f t)))
      go h true e true d = let z : true ≡ false = sym e ∙ ap (is_of space) (eqb-true b c d) ∙ kept in cc
      go h true e false d = h ∙ sym (on_first-white b (f t) e)
      go h false e true d = rw (more b (squeezed t), d, h)
      go h false e false d = rw (more b (squeezed t), d, h) (sym (on_first-kept b (f t) e))

-- the pieces that c parts, and those that end in c
pub parted-squeezed : (c : ℕ) → is_of space c ≡ false → (t : List ℕ) → parted c (squeezed t) ≡ map squeezed (parted c t)
unfolding parted squeezed keep
parted-squeezed c kept t = cut-squeezed c (parted c) kept refl (λ b t. refl) t

pub ended-squeezed : (c : ℕ) → is_of space c ≡ false → (t : List ℕ) → ended c (squeezed t) ≡ map squeezed (ended c t)
unfolding ended
ended-squeezed c kept t = cut-squeezed c (ended c) kept refl (λ b t. refl) t
