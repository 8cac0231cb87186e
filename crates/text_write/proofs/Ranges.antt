-- What `any` answers over 0, 1, .., n - 1.
-- Assumes nothing.
use Prim.Native.Nat.{ℕ, zero, suc, ◌+◌}
use native.Mathlib.Omega.{arith}
use mathlib.Core.Path.{◌≡◌, refl, sym, ap, ◌∙◌}
use mathlib.Core.Bool.{Bool, true, false, ◌||◌, or-false, or_assoc}
use mathlib.Core.List.{List}
use denote.Param.Members.{Mut}
use Rattle.std.specs.declared.ops.Range.{Range}
use Rattle.std.specs.declared.option.Option.{Option}
use Rattle.std.specs.Option.{MatchOption}
use Rattle.std.specs.Fn.{Called}
use Rattle.std.specs.Iterator.{YieldsThen}
use Rattle.std.specs.List.{FoldsTo, list_any, range_with_len}
use Rattle.std.proofs.iter.Yields.{nat_range_steps}
use Rattle.std.proofs.lemmas.Iterator.{YieldsList-from_range}
use Rattle.std.proofs.lemmas.Iterator.Search.{any_from_yields_List}
use Rattle.words.specs.Lists.{any_below}

-- the first test apart
any_below-first : (n : ℕ) (f : ℕ → Bool) → any_below (suc n) f ≡ f 0 || any_below n (λ i. f (suc i))
unfolding any_below
any_below-first zero f = sym (or-false (f 0))
any_below-first (suc n) f = rw (any_below-first n f) (or_assoc (f 0) (any_below n (λ i. f (suc i))) (f (suc n)))

any_below-same : (n : ℕ) (f g : ℕ → Bool) → ((i : ℕ) → f i ≡ g i) → any_below n f ≡ any_below n g
unfolding any_below
any_below-same zero f g h = refl
any_below-same (suc n) f g h = rw (any_below-same n f g h, h n)

list_any-range : (f : ℕ → Bool) (k n : ℕ) → list_any f (range_with_len k n) ≡ any_below n (λ i. f (k + i))
unfolding any_below
list_any-range f k zero = refl
list_any-range f k (suc n) =
    ap (λ b. f k || b) (list_any-range f (k + 1) n ∙ any_below-same n (λ i. f (k + 1 + i)) (λ i. f (k + suc i)) (λ i. ap f (omega arith)))
    ∙ ap (λ m. f m || any_below n (λ i. f (k + suc i))) (omega arith)
    ∙ sym (any_below-first n (λ i. f (k + i)))

-- the closure of an `any` over 0 .. n computes the test: so `any` answers whether one below n passes it
pub any_below-from_any :
    {F : Type 0} {g : Mut F (ℕ × Unit {0}) Bool} (test : ℕ → Bool) (n : ℕ) (u : Range ℕ) (f : F) (r : Bool)
    → (xs : List ℕ) × (o : Option ℕ) × (j : F) × YieldsThen nat_range_steps (record { start = 0; end = n }) xs o u × FoldsTo (λ p x q. Called g p (x, tt) false q) f xs j × MatchOption o (r ≡ false) (λ x. (r ≡ true) × ((h : F) × Called g j (x, tt) true h))
    → ((x : ℕ) (b : Bool) (q : F) → Called g f (x, tt) b q → (q ≡ f) × (b ≡ test x))
    → r ≡ any_below n test
any_below-from_any test n u f r ran computes =
    any_from_yields_List test u f r ran (YieldsList-from_range 0 n n refl (omega arith)) computes
    ∙ list_any-range test 0 n
    ∙ any_below-same n (λ i. test (0 + i)) test (λ i. ap test (omega arith))
