-- The check of a list in the order in which the code goes through it.
-- Assumes nothing.
use Prim.Native.Nat.{ℕ, zero, suc, ◌+◌, ◌-◌, ◌*◌, ◌≤◌, ◌<◌}
use native.Mathlib.Omega.{arith}
use mathlib.Core.Path.{◌≡◌, refl, sym, ap, ◌∙◌}
use mathlib.Core.Bool.{Bool, true, false, ◌&&◌, and-true, and-false}
use mathlib.Core.List.{List}
use lib.ListN.{length}
use lib.Dec.{eqb, leb}
use borrow.Author.Tests.{eq-eqb, eqb-true, le-leb, lt-leb}
use Rattle.words.specs.Lists.{all_below}
use Rattle.word_laws.proofs.Tests.{both_first, all_below-at, all_below-fails}
use Rattle.xml.specs.Names.{entry_bytes, most_names, most_name_bytes, names, length_of, good_name, good_names}
use Rattle.names.specs.Parts.{new_name, good_part, good_at}
use Rattle.names.proofs.GoodEntries.{good-entry}

-- tests in pairs pass where both rows of them do
all_below-both : (n : ℕ) (f g : ℕ → Bool) → all_below n (λ i. f i && g i) ≡ all_below n f && all_below n g
unfolding all_below
all_below-both zero f g = refl
all_below-both (suc n) f g = rw (all_below-both n f g) (go (all_below n f) (all_below n g) (f n) (g n))
  where
    go : (a b x y : Bool) → a && b && (x && y) ≡ a && x && (b && y)
    go true true x y = refl
    go true false true y = refl
    go true false false y = refl
    go false b x y = refl

-- of two tests, one that fails is enough
fails-first : (x y : Bool) → x ≡ false → x && y ≡ false
fails-first x y e = rw e

fails-second : (x y : Bool) → y ≡ false → x && y ≡ false
fails-second x y e = rw (e, and-false x)

-- tests pass in one row where they do in both parts of it
all_below-parts : (m n : ℕ) (f : ℕ → Bool) → all_below (m + n) f ≡ all_below m f && all_below n (λ k. f (m + k))
unfolding all_below
all_below-parts m zero f = let e : m + 0 ≡ m = omega arith in ap (λ k. all_below k f) e ∙ sym (and-true (all_below m f))
all_below-parts m (suc n) f =
    let e : m + suc n ≡ suc (m + n) = omega arith in
    ap (λ k. all_below k f) e
    ∙ rw (all_below-parts m n f) (go (all_below m f) (all_below n (λ k. f (m + k))) (f (m + n)))
  where
    go : (a b c : Bool) → (a && b) && c ≡ a && (b && c)
    go true b c = refl
    go false b c = refl

module _ (l : List ℕ) where
  -- a list that does not end with an entry, or of more than 1,024 names, is bad
  pub bad_size : (entry_bytes * names l ≡ length l → most_names < names l) → good_names l ≡ false
  unfolding good_names
  bad_size h = go (eqb (64 * names l) (length l)) refl
    where
      go : (b : Bool) → eqb (64 * names l) (length l) ≡ b → b && leb (names l) 1024 && all_below (names l) (good_at l) ≡ false
      go true e = rw (lt-leb (names l) 1024 (h (eqb-true (64 * names l) (length l) e)))
      go false e = refl

  -- so is the one, and the other
  pub cut_short : (entry_bytes * names l ≡ length l → ⊥) → good_names l ≡ false
  cut_short d = bad_size (λ e. absurd (d e))

  pub too_many : most_names < names l → good_names l ≡ false
  too_many h = bad_size (λ e. h)

  bad-at : (i : ℕ) → i < names l → good_at l i ≡ false → good_names l ≡ false
  unfolding good_names
  bad-at i h e =
      fails-second (eqb (64 * names l) (length l) && leb (names l) 1024) (all_below (names l) (good_at l))
      (sym (all_below-fails (names l) i (good_at l) h e))

  -- one with an entry that is bad by itself
  pub bad-entry : (i : ℕ) → i < names l → good_name l i ≡ false → good_names l ≡ false
  bad-entry i h e = bad-at i h (fails-first (good_name l i) (new_name l i) e)

  -- one with an entry that is not apart from those before it
  pub old-entry : (i : ℕ) → i < names l → new_name l i ≡ false → good_names l ≡ false
  old-entry i h e = bad-at i h (fails-second (good_name l i) (new_name l i) e)

  -- any other is good
  pub all-good : entry_bytes * names l ≡ length l → names l ≤ most_names → all_below (names l) (good_at l) ≡ true → good_names l ≡ true
  unfolding good_names
  all-good e h a = rw (eq-eqb (64 * names l) (length l) e, le-leb (names l) 1024 h, a)

  -- in any of a good size each entry is good by itself, and then apart from those before it
  pub each-good : entry_bytes * names l ≡ length l → names l ≤ most_names
      → good_names l ≡ all_below (names l) (good_name l) && all_below (names l) (new_name l)
  unfolding good_names
  each-good e h = rw (eq-eqb (64 * names l) (length l) e, le-leb (names l) 1024 h) (all_below-both (names l) (good_name l) (new_name l))

  -- the first entries, if they are good: each is by itself
  pub part-before : (m : ℕ) → all_below m (good_at l) ≡ true → all_below m (good_name l) ≡ true
  part-before m a = both_first (all_below m (good_name l)) (all_below m (new_name l)) (sym (all_below-both m (good_name l) (new_name l)) ∙ a)

  -- a good part behind them
  pub part-more : (m n : ℕ) → all_below m (good_at l) ≡ true → good_part l m n ≡ true → all_below (m + n) (good_at l) ≡ true
  part-more m n a g =
      all_below-parts m n (good_at l) ∙ rw (a, all_below-both n (λ k. good_name l (m + k)) (λ k. new_name l (m + k))) g

  -- a bad one
  pub part-bad : (m n : ℕ) → m + n ≤ names l → good_part l m n ≡ false → good_names l ≡ false
  unfolding good_names
  part-bad m n h g =
      let e : m + n + (names l - (m + n)) ≡ names l = omega arith in
      let b = all_below-parts m n (good_at l) ∙ fails-second (all_below m (good_at l)) (all_below n (λ k. good_at l (m + k))) (all_below-both n (λ k. good_name l (m + k)) (λ k. new_name l (m + k)) ∙ g) in
      let c = all_below-parts (m + n) (names l - (m + n)) (good_at l) ∙ fails-first (all_below (m + n) (good_at l)) (all_below (names l - (m + n)) (λ k. good_at l (m + n + k))) b in
      fails-second (eqb (64 * names l) (length l) && leb (names l) 1024) (all_below (names l) (good_at l)) (ap (λ k. all_below k (good_at l)) (sym e) ∙ c)

  -- names of entries that are good by themselves have at most 60 bytes
  pub lengths-below : (n : ℕ) → all_below n (good_name l) ≡ true → (i : ℕ) → i < n → (j : ℕ) → j ≤ i → length_of l j ≤ most_name_bytes
  lengths-below n e i h j k = (good-entry l j (all_below-at n j (good_name l) e (omega arith))).length_to

  pub lengths-to : all_below (names l) (good_name l) ≡ true → (i : ℕ) → i < names l → (j : ℕ) → j ≤ i → length_of l j ≤ most_name_bytes
  lengths-to = lengths-below (names l)

  -- those of n entries, after some that are good too
  pub lengths-after : (m n : ℕ) → all_below m (good_name l) ≡ true → all_below n (λ k. good_name l (m + k)) ≡ true
      → (i : ℕ) → i < n → (j : ℕ) → j ≤ m + i → length_of l j ≤ most_name_bytes
  lengths-after m n e f i h j k = lengths-below (m + n) (rw (all_below-parts m n (good_name l), e, f)) (m + i) (omega arith) j k
