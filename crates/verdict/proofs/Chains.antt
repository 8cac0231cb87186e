-- What `any` answers over a range of indices, by the lists that are made by index.
-- Assumes nothing.
use Prim.Native.Nat.{ℕ, zero, suc}
use native.Mathlib.Numerals.{add-one}
use mathlib.Core.Path.{◌≡◌, refl, sym, ap, ◌∙◌}
use mathlib.Core.Bool.{Bool, ◌||◌}
use mathlib.Core.List.{List, flatten}
use Rattle.std.specs.List.{list_any, range_with_len}
use Rattle.words.specs.Lists.{tab, any_of}
use Rattle.word_laws.proofs.Keep.{any_of-append}

module _ {A : Type 0} (t : A → Bool) where
  pub any-elements : (f : ℕ → A) (k n : ℕ) → list_any (λ i. t (f i)) (range_with_len k n) ≡ any_of t (tab f k n)
  unfolding tab any_of
  any-elements f k zero = refl
  any-elements f k (suc n) = rw (add-one k) (ap (λ (b : Bool). t (f k) || b) (any-elements f (suc k) n))

  pub any-lists : (f : ℕ → List A) (k n : ℕ) → list_any (λ i. any_of t (f i)) (range_with_len k n) ≡ any_of t (flatten (tab f k n))
  unfolding tab flatten any_of
  any-lists f k zero = refl
  any-lists f k (suc n) =
      rw (add-one k) (ap (λ (b : Bool). any_of t (f k) || b) (any-lists f (suc k) n)) ∙ sym (any_of-append t (f k) (flatten (tab f (suc k) n)))
