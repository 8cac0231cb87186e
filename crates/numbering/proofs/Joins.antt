-- Lists that are made by index and joined: one list more, and one run of them behind another.
-- Assumes nothing.
use Prim.Native.Nat.{ℕ, zero, suc, ◌+◌}
use native.Mathlib.Nat.{zero-add, add-zero, add-suc}
use native.Mathlib.Numerals.{add-one}
use native.Mathlib.Omega.{arith}
use mathlib.Core.Path.{◌≡◌, sym, ap, ◌∙◌}
use mathlib.Core.List.{List, ◌++◌, flatten, append_assoc, append-nil}
use Rattle.words.specs.Lists.{tab}

module _ {A : Type 0} where
  -- from any index on, the last list stands behind the others
  last : (f : ℕ → List A) (k n : ℕ) → flatten (tab f k (suc n)) ≡ flatten (tab f k n) ++ f (k + n)
  unfolding flatten tab
  last f k zero = append-nil (f k) ∙ ap f (sym (add-zero k))
  last f k (suc n) =
      let e : k + suc n ≡ suc k + n = omega arith in
      rw (e, append_assoc (f k) (flatten (tab f (suc k) n)) (f (suc k + n))) (ap (λ (r : List A). f k ++ r) (last f (suc k) n))

  -- the same from 0 on, as a loop counts
  pub joins-more : (f : ℕ → List A) (n : ℕ) → flatten (tab f 0 (n + 1)) ≡ flatten (tab f 0 n) ++ f n
  joins-more f n = rw add-one (last f 0 n ∙ ap (λ i. flatten (tab f 0 n) ++ f i) (zero-add n))

  -- the first m lists, and then the n behind them
  pub joins-split : (f : ℕ → List A) (m n : ℕ) → flatten (tab f 0 (m + n)) ≡ flatten (tab f 0 m) ++ flatten (tab (λ i. f (m + i)) 0 n)
  unfolding flatten tab
  joins-split f m zero = rw (add-zero m) (sym (append-nil (flatten (tab f 0 m))))
  joins-split f m (suc n) =
      ap (λ i. flatten (tab f 0 i)) (add-suc m n)
      ∙ last f 0 (m + n)
      ∙ rw (joins-split f m n, zero-add (m + n), append_assoc (flatten (tab f 0 m)))
      (ap (λ (r : List A). flatten (tab f 0 m) ++ r) (sym (last (λ i. f (m + i)) 0 n ∙ ap (λ j. flatten (tab (λ i. f (m + i)) 0 n) ++ f (m + j)) (zero-add n))))
