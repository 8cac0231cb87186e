-- Laws of `keep`, `any_of` and `non_empty`.
-- Assumes nothing.
use mathlib.Core.Path.{◌≡◌, refl, subst}
use mathlib.Core.Bool.{Bool, true, false, cond, not, ◌&&◌, ◌||◌}
use mathlib.Core.List.{List, [], ◌∷◌, ◌++◌, map, append-nil, append_assoc}
use Prim.Native.Nat.{suc, ◌+◌}
use native.Mathlib.Omega.{arith}
use lib.ListN.{length}
use Rattle.words.specs.Lists.{keep, any_of, non_empty}

module _ {A : Type 0} where
  -- a list is reached from the empty one by appending element after element
  pub snoc-induction : (P : List A → Type 0) → P [] → ((xs : List A) (x : A) → P xs → P (xs ++ (x ∷ []))) → (xs : List A) → P xs
  snoc-induction P base step xs = go [] xs base
    where
      go : (done rest : List A) → P done → P (done ++ rest)
      go done [] h = rw append-nil h
      go done (x ∷ rest) h = subst P (append_assoc done (x ∷ []) rest) (go (done ++ (x ∷ [])) rest (step done x h))

  pub keep_append : (t : A → Bool) (xs ys : List A) → keep t (xs ++ ys) ≡ keep t xs ++ keep t ys
  unfolding keep
  keep_append t [] ys = refl
  keep_append t (x ∷ xs) ys = rw (keep_append t xs ys) (go (t x))
    where
      go : (b : Bool) → cond b (x ∷ (keep t xs ++ keep t ys)) (keep t xs ++ keep t ys) ≡ cond b (x ∷ keep t xs) (keep t xs) ++ keep t ys
      go true = refl
      go false = refl

  pub keep-more : (t : A → Bool) (xs : List A) (x : A) → keep t (xs ++ (x ∷ [])) ≡ keep t xs ++ cond (t x) (x ∷ []) []
  unfolding keep
  keep-more t xs x = keep_append t xs (x ∷ [])

  -- keeping from what was kept is keeping by both tests
  pub keep-keep : (s t : A → Bool) (xs : List A) → keep t (keep s xs) ≡ keep (λ x. s x && t x) xs
  unfolding keep
  keep-keep s t [] = refl
  keep-keep s t (x ∷ xs) = go (keep-keep s t xs) (s x)
    where
      go : keep t (keep s xs) ≡ keep (λ y. s y && t y) xs → (b : Bool) → keep t (cond b (x ∷ keep s xs) (keep s xs)) ≡ cond (b && t x) (x ∷ keep (λ y. s y && t y) xs) (keep (λ y. s y && t y) xs)
      go h true = rw h
      go h false = h

  -- by one test and then by another, in either order
  pub keep-swap : (s t : A → Bool) (xs : List A) → keep t (keep s xs) ≡ keep s (keep t xs)
  unfolding keep
  keep-swap s t [] = refl
  keep-swap s t (x ∷ xs) = go (keep-swap s t xs) (s x) refl (t x) refl
    where
      go :
          keep t (keep s xs) ≡ keep s (keep t xs) → (a : Bool) → s x ≡ a → (b : Bool) → t x ≡ b
          → keep t (cond a (x ∷ keep s xs) (keep s xs)) ≡ keep s (cond b (x ∷ keep t xs) (keep t xs))
      go h true e true f = rw (e, f, h)
      go h true e false f = rw (f, h)
      go h false e true f = rw (e, h)
      go h false e false f = h

  pub keep-map : {B : Type 0} (f : B → A) (t : A → Bool) (xs : List B) → keep t (map f xs) ≡ map f (keep (λ x. t (f x)) xs)
  unfolding keep
  keep-map f t [] = refl
  keep-map f t (x ∷ xs) = rw (keep-map f t xs) (go (t (f x)))
    where
      go : (b : Bool) → cond b (f x ∷ map f (keep (λ y. t (f y)) xs)) (map f (keep (λ y. t (f y)) xs)) ≡ map f (cond b (x ∷ keep (λ y. t (f y)) xs) (keep (λ y. t (f y)) xs))
      go true = refl
      go false = refl

  -- some element passes where what is kept is not empty, also after a map
  pub any_of-keep : {B : Type 0} (t : A → Bool) (f : A → B) (xs : List A) → any_of t xs ≡ non_empty (map f (keep t xs))
  unfolding keep any_of non_empty
  any_of-keep t f [] = refl
  any_of-keep t f (x ∷ xs) = go (any_of-keep t f xs) (t x)
    where
      go : any_of t xs ≡ non_empty (map f (keep t xs)) → (b : Bool) → b || any_of t xs ≡ non_empty (map f (cond b (x ∷ keep t xs) (keep t xs)))
      go h true = refl
      go h false = h

  pub non_empty-map : {B : Type 0} (f : A → B) (xs : List A) → non_empty (map f xs) ≡ non_empty xs
  unfolding non_empty
  non_empty-map f [] = refl
  non_empty-map f (x ∷ xs) = refl

  pub empty-is-nil : (xs : List A) → non_empty xs ≡ false → xs ≡ []
  unfolding non_empty
  empty-is-nil [] e = refl
  empty-is-nil (x ∷ xs) e = cc

  pub any_of-append : (t : A → Bool) (xs ys : List A) → any_of t (xs ++ ys) ≡ any_of t xs || any_of t ys
  unfolding any_of
  any_of-append t [] ys = refl
  any_of-append t (x ∷ xs) ys = rw (any_of-append t xs ys) (go (t x))
    where
      go : (b : Bool) → b || (any_of t xs || any_of t ys) ≡ (b || any_of t xs) || any_of t ys
      go true = refl
      go false = refl

  -- none is kept by a test that always fails, and all are by one that always passes
  pub keep-none : (xs : List A) → keep (λ x. false) xs ≡ []
  unfolding keep
  keep-none [] = refl
  keep-none (x ∷ xs) = keep-none xs

  -- what passes and what does not are all
  pub keep-split : (t : A → Bool) (xs : List A) → length (keep t xs) + length (keep (λ x. not (t x)) xs) ≡ length xs
  unfolding keep
  keep-split t [] = refl
  keep-split t (x ∷ xs) = go (t x) (keep-split t xs)
    where
      go : (b : Bool) → length (keep t xs) + length (keep (λ y. not (t y)) xs) ≡ length xs → length (cond b (x ∷ keep t xs) (keep t xs)) + length (cond (not b) (x ∷ keep (λ y. not (t y)) xs) (keep (λ y. not (t y)) xs)) ≡ suc (length xs)
      go true h = omega arith
      go false h = omega arith

pub map-map : {A B C : Type 0} (f : A → B) (g : B → C) (xs : List A) → map g (map f xs) ≡ map (λ x. g (f x)) xs
map-map f g [] = refl
map-map f g (x ∷ xs) = rw (map-map f g xs)

pub map-append : {A B : Type 0} (f : A → B) (xs ys : List A) → map f (xs ++ ys) ≡ map f xs ++ map f ys
map-append f [] ys = refl
map-append f (x ∷ xs) ys = rw (map-append f xs ys)
