-- `same_list` tells equal lists of numbers from others.
-- Assumes nothing.
use Prim.Native.Nat.{ℕ, zero, suc, ◌+◌}
use native.Mathlib.Omega.{arith}
use native.Mathlib.Nat.{add-zero, zero-add, add-suc, suc-add}
use mathlib.Core.Path.{◌≡◌, refl, sym, ap, ◌∙◌}
use mathlib.Core.Bool.{Bool, true, false, ◌&&◌, and_assoc, and-true}
use mathlib.Core.List.{List, [], ◌∷◌, ◌++◌}
use borrow.Author.Tests.{eqb-true, eq-eqb}
use lib.Dec.{eqb}
use lib.ListN.{length}
use Rattle.words.specs.Lists.{all_below, tab, same_list}
use Rattle.word_laws.proofs.Tests.{all_below-same}

pub same_refl : (xs : List ℕ) → same_list xs xs ≡ true
unfolding same_list
same_refl [] = refl
same_refl (x ∷ xs) = rw (eq-eqb x x refl) (same_refl xs)

pub same-eq : (xs ys : List ℕ) → same_list xs ys ≡ true → xs ≡ ys
unfolding same_list
same-eq [] [] e = refl
same-eq [] (y ∷ ys) e = cc
same-eq (x ∷ xs) [] e = cc
same-eq (x ∷ xs) (y ∷ ys) e = go (same-eq xs ys) (eqb x y) refl e
  where
    go : (same_list xs ys ≡ true → xs ≡ ys) → (b : Bool) → eqb x y ≡ b → b && same_list xs ys ≡ true → x ∷ xs ≡ y ∷ ys
    go ih true t h = cc (eqb-true x y t, ih h)
    go ih false t h = cc

pub same-swap : (xs ys : List ℕ) → same_list xs ys ≡ false → same_list ys xs ≡ false
same-swap xs ys e = go (same_list ys xs) refl
  where
    go : (b : Bool) → same_list ys xs ≡ b → b ≡ false
    go true t = sym (same_refl xs) ∙ ap (same_list xs) (sym (same-eq ys xs t)) ∙ e
    go false t = refl

-- lists in two parts, the first of them equally long
pub same-append : (xs ys xs' ys' : List ℕ) → length xs ≡ length ys → same_list (xs ++ xs') (ys ++ ys') ≡ same_list xs ys && same_list xs' ys'
unfolding same_list
same-append [] [] xs' ys' e = refl
same-append [] (y ∷ ys) xs' ys' e = cc
same-append (x ∷ xs) [] xs' ys' e = cc
same-append (x ∷ xs) (y ∷ ys) xs' ys' e =
    rw (same-append xs ys xs' ys' (omega (arith, e))) (sym (and_assoc (eqb x y) (same_list xs ys) (same_list xs' ys')))

-- ---- lists that are made by index

-- the first test apart
pub all_below-first : (n : ℕ) (f : ℕ → Bool) → all_below (suc n) f ≡ f 0 && all_below n (λ i. f (suc i))
unfolding all_below
all_below-first zero f = sym (and-true (f 0))
all_below-first (suc n) f = rw (all_below-first n f) (and_assoc (f 0) (all_below n (λ i. f (suc i))) (f (suc n)))

same-tabs-from : (f g : ℕ → ℕ) (k n : ℕ) → same_list (tab f k n) (tab g k n) ≡ all_below n (λ i. eqb (f (k + i)) (g (k + i)))
unfolding same_list tab all_below
same-tabs-from f g k zero = refl
same-tabs-from f g k (suc n) =
    rw (same-tabs-from f g (suc k) n, all_below-first n (λ i. eqb (f (k + i)) (g (k + i))), add-zero k)
    (ap (λ (b : Bool). eqb (f k) (g k) && b)
    (all_below-same n (λ i. eqb (f (suc k + i)) (g (suc k + i))) (λ i. eqb (f (k + suc i)) (g (k + suc i))) (λ i h. rw (suc-add k i, add-suc k i))))

pub same-tabs : (f g : ℕ → ℕ) (n : ℕ) → same_list (tab f 0 n) (tab g 0 n) ≡ all_below n (λ i. eqb (f i) (g i))
same-tabs f g n =
    same-tabs-from f g 0 n ∙ all_below-same n (λ i. eqb (f (0 + i)) (g (0 + i))) (λ i. eqb (f i) (g i)) (λ i h. rw (zero-add i))
