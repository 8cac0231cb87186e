-- Two texts compared byte by byte.
-- Assumes nothing.
use Prim.Native.Nat.{ℕ, ◌+◌, ◌<◌}
use native.Mathlib.Omega.{arith}
use native.Mathlib.Numerals.{add-one}
use mathlib.Core.Path.{◌≡◌, refl, ap, ◌∙◌}
use mathlib.Core.Bool.{Bool, true, false, ◌&&◌}
use mathlib.Core.List.{List}
use borrow.Author.Tests.{eq-eqb, ne_eqb}
use lib.Dec.{eqb}
use lib.ListN.{length, get_or, drop}
use lib.Seq.{drop-cons, drop-length}
use Rattle.words.specs.Lists.{same_list}
use Rattle.word_laws.proofs.Same.{same-eq}

-- texts of different lengths are different
pub same-lengths : (xs ys : List ℕ) → (length xs ≡ length ys → ⊥) → same_list xs ys ≡ false
same-lengths xs ys h = go (same_list xs ys) refl
  where
    go : (b : Bool) → same_list xs ys ≡ b → b ≡ false
    go true e = absurd (h (ap (λ (l : List ℕ). length l) (same-eq xs ys e)))
    go false e = refl

module _ (xs ys : List ℕ) (long : length xs ≡ length ys) (i : ℕ) (h : i < length xs) where
  -- the compare goes on behind byte i if it is the same
  same_at : (d : ℕ) → same_list (drop i xs) (drop i ys) ≡ eqb (get_or xs i 0) (get_or ys i d) && same_list (drop (i + 1) xs) (drop (i + 1) ys)
  unfolding same_list
  same_at d = rw (add-one i, drop-cons xs i 0 h, drop-cons ys i d (omega arith))

  pub same_more : (d : ℕ) → get_or xs i 0 ≡ get_or ys i d → same_list (drop i xs) (drop i ys) ≡ same_list (drop (i + 1) xs) (drop (i + 1) ys)
  same_more d e = same_at d ∙ rw (eq-eqb (get_or xs i 0) (get_or ys i d) e)

  pub same_not : (d : ℕ) → (get_or xs i 0 ≡ get_or ys i d → ⊥) → same_list (drop i xs) (drop i ys) ≡ false
  same_not d e = same_at d ∙ rw (ne_eqb (get_or xs i 0) (get_or ys i d) e)

-- behind the last byte nothing differs
pub same_end : (xs ys : List ℕ) → length xs ≡ length ys → same_list (drop (length xs) xs) (drop (length xs) ys) ≡ true
unfolding same_list
same_end xs ys long = rw (drop-length xs, long, drop-length ys)
