-- The length of n lists joined, added up list by list as a loop does: r is that of the first k, and with what is left of the whole it is t.
-- Assumes nothing.
use Prim.Native.Nat.{ℕ, zero, suc, ◌+◌, ◌-◌, ◌≤◌, ◌<◌}
use native.Mathlib.Nat.{zero-add, add-zero, add_assoc, sub-zero}
use native.Mathlib.Numerals.{add-one}
use native.Mathlib.Omega.{arith}
use mathlib.Core.Path.{◌≡◌, sym, ◌∙◌}
use mathlib.Core.List.{List, flatten}
use lib.ListN.{length, length-append}
use Rattle.words.specs.Lists.{tab}

module _ {A : Type 0} (f : ℕ → List A) where
  pub joined-start : (n : ℕ) → 0 + length (flatten (tab f 0 (n - 0))) ≡ length (flatten (tab f 0 n))
  joined-start n = rw (sub-zero n, zero-add)

  pub joined-more : (k n r : ℕ) {t : ℕ} → r + length (flatten (tab f k (n - k))) ≡ t → k < n
      → r + length (f k) + length (flatten (tab f (k + 1) (n - (k + 1)))) ≡ t
  unfolding flatten tab
  joined-more k n r e h =
      let m : n - k ≡ suc (n - suc k) = omega arith in
      rw (add-one k, add_assoc r, ← length-append (f k)) (rw m at e)

  pub joined-done : (k n r : ℕ) {t : ℕ} → r + length (flatten (tab f k (n - k))) ≡ t → n ≤ k → r ≡ t
  unfolding flatten tab
  joined-done k n r e h = let m : n - k ≡ zero = omega arith in sym (add-zero r) ∙ (rw m at e)
