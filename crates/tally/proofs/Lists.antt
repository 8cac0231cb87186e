-- Lists that grow by one element at their end, and lists that are replaced element by element.
-- Assumes nothing.
use Prim.Native.Nat.{ℕ, zero, suc, ◌+◌, ◌*◌, ◌≤◌, ◌<◌}
use native.Mathlib.Omega.{arith}
use mathlib.Core.Path.{◌≡◌, refl, sym, ap, ◌∙◌}
use mathlib.Core.Bool.{Bool, true, false, cond, ◌||◌, or-false}
use mathlib.Core.List.{List, [], ◌∷◌, ◌++◌}
use lib.ListN.{length, get_or, set, take, length-append}
use lib.Seq.{get_or-set_same, get_or-set_other}
use Rattle.std.specs.List.{count_by, filter, list_any, range_with_len, sum_by}
use Rattle.std.proofs.lemmas.List.Sums.{length-filter, sum_by-cons}
use Rattle.words.specs.Lists.{keep, any_of, any_below, sum_below}
use Rattle.word_laws.proofs.Keep.{keep_append, any_of-append, keep-split}
use Rattle.word_laws.proofs.Tests.{below_suc}
use Rattle.word_laws.proofs.Below.{sum_below-same}

-- ---- one element more

module _ {A : Type 0} (t : A → Bool) (xs : List A) where
  pub any_snoc : (x : A) → any_of t (xs ++ (x ∷ [])) ≡ any_of t xs || t x
  unfolding any_of
  any_snoc x = any_of-append t xs (x ∷ []) ∙ ap (λ (b : Bool). any_of t xs || b) (or-false (t x))

  pub count-snoc : (x : A) → length (keep t (xs ++ (x ∷ []))) ≡ length (keep t xs) + cond (t x) 1 0
  unfolding keep
  count-snoc x = ap length (keep_append t xs (x ∷ [])) ∙ length-append (keep t xs) (keep t (x ∷ [])) ∙ ap (λ (n : ℕ). length (keep t xs) + n) (one (t x))
    where
      one : (b : Bool) → length (cond b (x ∷ []) []) ≡ cond b 1 0
      one true = refl
      one false = refl

  pub count_most : length (keep t xs) ≤ length xs
  count_most = omega (arith, keep-split t xs)

-- ---- one element replaced: a loop's turn at k

module _ {A B : Type 0} (d : A) (read : A → B) (l : List A) (k : ℕ) (v : A) where
  -- those before it, and it
  pub set_before :
      (f : ℕ → B) → k < length l → ((i : ℕ) → i < k → read (get_or l i d) ≡ f i) → read v ≡ f k
      → (i : ℕ) → i < k + 1 → read (get_or (set l k v) i d) ≡ f i
  set_before f h e g i b =
      below_suc (λ j. read (get_or (set l k v) j d) ≡ f j) k i (omega arith)
      (λ m. rw (get_or-set_other l k i v d (λ s. omega arith)) (e i m))
      (rw (get_or-set_same l k v d h) g)

  -- those behind it
  pub set-behind : (i : ℕ) → k + 1 ≤ i → read (get_or (set l k v) i d) ≡ read (get_or l i d)
  set-behind i h = ap read (get_or-set_other l k i v d (λ s. omega arith))

-- ---- what passes a test, by index

sum_below-first : (n : ℕ) (f : ℕ → ℕ) → sum_below (suc n) f ≡ f 0 + sum_below n (λ i. f (suc i))
unfolding sum_below
sum_below-first zero f = omega arith
sum_below-first (suc n) f = omega (arith, sum_below-first n f)

any_below-first : (n : ℕ) (f : ℕ → Bool) → any_below (suc n) f ≡ f 0 || any_below n (λ i. f (suc i))
unfolding any_below
any_below-first zero f = sym (or-false (f 0))
any_below-first (suc n) f = ap (λ (b : Bool). b || f (suc n)) (any_below-first n f) ∙ or_assoc (f 0) (any_below n (λ i. f (suc i))) (f (suc n))
  where
    or_assoc : (x y z : Bool) → (x || y) || z ≡ x || (y || z)
    or_assoc true y z = refl
    or_assoc false y z = refl

sum_by-range : (f : ℕ → ℕ) (k n : ℕ) → sum_by f (range_with_len k n) ≡ sum_below n (λ i. f (k + i))
unfolding sum_below
sum_by-range f k zero = refl
sum_by-range f k (suc n) =
    sum_by-cons f k (range_with_len (k + 1) n)
    ∙ ap (λ (m : ℕ). f k + m) (sum_by-range f (k + 1) n ∙ sum_below-same n _ _ (λ i h. ap f (omega arith)))
    ∙ ap (λ (j : ℕ). f j + sum_below n (λ i. f (k + suc i))) (omega arith)
    ∙ sym (sum_below-first n (λ i. f (k + i)))

-- the sum, and how many `filter` takes, of 0, 1, .., n - 1
pub sum-range : (f : ℕ → ℕ) (n : ℕ) → sum_by f (range_with_len 0 n) ≡ sum_below n f
sum-range f n = sum_by-range f 0 n ∙ sum_below-same n _ _ (λ i h. ap f (omega arith))

pub filter-range : (t : ℕ → Bool) (n : ℕ) → length (filter t (range_with_len 0 n)) ≡ sum_below n (λ i. cond (t i) 1 0)
filter-range t n = length-filter t (range_with_len 0 n) ∙ sum-range (λ i. cond (t i) 1 0) n

pub sum-few : (f : ℕ → ℕ) (m n : ℕ) → ((i : ℕ) → f i ≤ m) → sum_below n f ≤ m * n
unfolding sum_below
sum-few f m zero h = omega arith
sum-few f m (suc n) h = let e : m * suc n ≡ m * n + m = omega arith in omega (arith, sum-few f m n h, h n, e)

module _ {A : Type 0} (t : A → Bool) (d : A) where
  pub count_by-below : (l : List A) → count_by t l ≡ sum_below (length l) (λ j. cond (t (get_or l j d)) 1 0)
  unfolding sum_below
  count_by-below [] = refl
  count_by-below (x ∷ xs) =
      sum_by-cons (λ y. cond (t y) 1 0) x xs
      ∙ ap (λ (n : ℕ). cond (t x) 1 0 + n) (count_by-below xs)
      ∙ sym (sum_below-first (length xs) (λ j. cond (t (get_or (x ∷ xs) j d)) 1 0))

  -- one that passes is counted
  pub count_by-some : (l : List A) (k : ℕ) → k < length l → t (get_or l k d) ≡ true → 1 ≤ count_by t l
  count_by-some [] k h e = absurd (omega arith)
  count_by-some (x ∷ xs) zero h e = let s = sum_by-cons (λ y. cond (t y) 1 0) x xs in rw (s, e) (omega arith)
  count_by-some (x ∷ xs) (suc k) h e =
      let s = sum_by-cons (λ y. cond (t y) 1 0) x xs in
      omega (arith, s, count_by-some xs k (omega arith) e)

  pub list_any-below : (l : List A) (k : ℕ) → k ≤ length l → list_any t (take k l) ≡ any_below k (λ j. t (get_or l j d))
  unfolding any_below
  list_any-below l zero h = refl
  list_any-below [] (suc k) h = absurd (omega arith)
  list_any-below (x ∷ xs) (suc k) h =
      ap (λ (b : Bool). t x || b) (list_any-below xs k (omega arith)) ∙ sym (any_below-first k (λ j. t (get_or (x ∷ xs) j d)))
