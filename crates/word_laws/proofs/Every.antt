-- A property that each element of a list has: how it passes to a part, a joined, a made and an indexed list.
-- Assumes nothing.
use Prim.Native.Nat.{ℕ, zero, suc, ◌+◌, ◌≤◌, ◌<◌}
use native.Mathlib.Omega.{arith}
use mathlib.Core.List.{List, [], ◌∷◌, ◌++◌, flatten, map}
use lib.ListN.{length, get_or, take, drop}
use mathlib.Core.Path.{◌≡◌, refl, sym, ◌∙◌}
use mathlib.Core.Bool.{Bool, true, false, cond, false≢true}
use Rattle.words.specs.Lists.{tab, keep}

pub data Every {A : Type 0} (P : A → Type 0) : List A → Type 0 where
  empty : Every P []
  more : {x : A} {xs : List A} → P x → Every P xs → Every P (x ∷ xs)

module _ {A : Type 0} {P : A → Type 0} where
  -- ---- taken apart

  pub every-get_d : {l : List A} (d : A) (i : ℕ) → Every P l → i < length l → P (get_or l i d)
  every-get_d d i empty h = absurd (omega arith)
  every-get_d d zero (more p ps) h = p
  every-get_d d (suc i) (more p ps) h = every-get_d d i ps (omega arith)

  pub every_take : {l : List A} (n : ℕ) → Every P l → Every P (take n l)
  every_take zero ps = empty
  every_take (suc n) empty = empty
  every_take (suc n) (more {x = x} {xs = xs} p ps) = more p (every_take {l = xs} n ps)

  pub every_drop : {l : List A} (n : ℕ) → Every P l → Every P (drop n l)
  every_drop zero ps = ps
  every_drop (suc n) empty = empty
  every_drop (suc n) (more {x = x} {xs = xs} p ps) = every_drop {l = xs} n ps

  -- ---- put together

  pub every_append : {l k : List A} → Every P l → Every P k → Every P (l ++ k)
  every_append empty qs = qs
  every_append (more p ps) qs = more p (every_append ps qs)

  pub every-flatten : {ls : List (List A)} → Every (Every P) ls → Every P (flatten ls)
  unfolding flatten
  every-flatten empty = empty
  every-flatten (more ps pss) = every_append ps (every-flatten pss)

  pub every-tab : (f : ℕ → A) (k n : ℕ) → ((i : ℕ) → k ≤ i → i < k + n → P (f i)) → Every P (tab f k n)
  unfolding tab
  every-tab f k zero h = empty
  every-tab f k (suc n) h = more (h k (omega arith) (omega arith)) (every-tab f (suc k) n (λ i lo hi. h i (omega arith) (omega arith)))

-- another property, of the same elements or of their images
pub every_map : {A B : Type 0} {P : A → Type 0} {Q : B → Type 0} {l : List A} (f : A → B) → ((x : A) → P x → Q (f x)) → Every P l → Every Q (map f l)
every_map f g empty = empty
every_map f g (more {x = x} p ps) = more (g x p) (every_map f g ps)

pub every-weaken : {A : Type 0} {P Q : A → Type 0} {l : List A} → ((x : A) → P x → Q x) → Every P l → Every Q l
every-weaken g empty = empty
every-weaken g (more {x = x} p ps) = more (g x p) (every-weaken g ps)

module _ {A : Type 0} where
  pub every-all : (P : A → Type 0) → ((x : A) → P x) → (xs : List A) → Every P xs
  every-all P f [] = empty
  every-all P f (x ∷ xs) = more (f x) (every-all P f xs)

  pub every-left : (P : A → Type 0) (xs ys : List A) → Every P (xs ++ ys) → Every P xs
  every-left P [] ys h = empty
  every-left P (x ∷ xs) ys (more h t) = more h (every-left P xs ys t)

  pub every-right : (P : A → Type 0) (xs ys : List A) → Every P (xs ++ ys) → Every P ys
  every-right P [] ys h = h
  every-right P (x ∷ xs) ys (more h t) = every-right P xs ys t

  pub every-head : (P : A → Type 0) {x : A} {xs : List A} → Every P (x ∷ xs) → P x
  every-head P (more h t) = h

  pub every-tail : (P : A → Type 0) {x : A} {xs : List A} → Every P (x ∷ xs) → Every P xs
  every-tail P (more h t) = t

  -- what every element has, those that are kept have
  pub every-keep : (P : A → Type 0) (t : A → Bool) {xs : List A} → Every P xs → Every P (keep t xs)
  unfolding keep
  every-keep P t empty = empty
  every-keep P t (more {x = x} {xs = xs} h r) = pick (t x) (every-keep P t r)
    where
      pick : (b : Bool) → Every P (keep t xs) → Every P (cond b (x ∷ keep t xs) (keep t xs))
      pick true k = more h k
      pick false k = k

  -- two tests that agree on every element keep the same
  pub keep_same : (s t : A → Bool) {xs : List A} → Every (λ x. s x ≡ t x) xs → keep s xs ≡ keep t xs
  unfolding keep
  keep_same s t empty = refl
  keep_same s t (more h r) = rw (h, keep_same s t r)

  -- two functions that agree on every element map to the same
  pub map_same : {B : Type 0} (f g : A → B) {xs : List A} → Every (λ x. f x ≡ g x) xs → map f xs ≡ map g xs
  map_same f g empty = refl
  map_same f g (more h r) = rw (h, map_same f g r)

  -- what is kept passes the test
  pub kept-passes : (t : A → Bool) (xs : List A) → Every (λ x. t x ≡ true) (keep t xs)
  unfolding keep
  kept-passes t [] = empty
  kept-passes t (x ∷ xs) = pick (kept-passes t xs) (t x) refl
    where
      pick : Every (λ y. t y ≡ true) (keep t xs) → (b : Bool) → t x ≡ b → Every (λ y. t y ≡ true) (cond b (x ∷ keep t xs) (keep t xs))
      pick k true e = more e k
      pick k false e = k

  -- what those that are kept have, each that passes has
  pub every-kept : (P : A → Type 0) (t : A → Bool) (xs : List A) → Every P (keep t xs) → Every (λ x. t x ≡ true → P x) xs
  unfolding keep
  every-kept P t [] h = empty
  every-kept P t (x ∷ xs) h = pick (t x) refl h (every-kept P t xs)
    where
      pick :
          (b : Bool) → t x ≡ b → Every P (cond b (x ∷ keep t xs) (keep t xs))
          → (Every P (keep t xs) → Every (λ y. t y ≡ true → P y) xs)
          → Every (λ y. t y ≡ true → P y) (x ∷ xs)
      pick true e (more k r) ih = more (λ f. k) (ih r)
      pick false e k ih = more (λ f. absurd (false≢true (sym e ∙ f))) (ih k)

  -- a property with a parameter, at every one of its values
  pub every-forall : {K : Type 0} (P : K → A → Type 0) (xs : List A) → ((k : K) → Every (P k) xs) → Every (λ x. (k : K) → P k x) xs
  every-forall P [] h = empty
  every-forall P (x ∷ xs) h = more (λ k. every-head (P k) (h k)) (every-forall P xs (λ k. every-tail (P k) (h k)))

  -- two properties of every element
  pub every-both : (P Q : A → Type 0) {xs : List A} → Every P xs → Every Q xs → Every (λ x. P x × Q x) xs
  every-both P Q empty empty = empty
  every-both P Q (more p ps) (more q qs) = more (p, q) (every-both P Q ps qs)
