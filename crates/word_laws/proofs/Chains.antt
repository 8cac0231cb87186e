-- Chains over a range of indices: what `all` answers over 0, 1, .., n - 1.
-- Assumes nothing.
use Prim.Native.Nat.{ℕ, zero, suc, ◌+◌}
use native.Mathlib.Omega.{arith}
use mathlib.Core.Path.{◌≡◌, refl, sym, ap, ◌∙◌}
use mathlib.Core.Bool.{Bool, true, false, ◌&&◌}
use mathlib.Core.List.{List}
use denote.Param.Members.{Mut}
use Rattle.std.specs.declared.ops.Range.{Range}
use Rattle.std.specs.declared.option.Option.{Option}
use Rattle.std.specs.Option.{MatchOption}
use Rattle.std.specs.Fn.{Called}
use Rattle.std.specs.Iterator.{YieldsThen}
use Rattle.std.specs.List.{FoldsTo, list_all, range_with_len}
use Rattle.std.proofs.iter.Yields.{nat_range_steps}
use Rattle.std.proofs.lemmas.Iterator.{YieldsList-from_range}
use Rattle.std.proofs.lemmas.Iterator.Search.{all_from_yields_List}
use Rattle.words.specs.Lists.{all_below}
use Rattle.word_laws.proofs.Same.{all_below-first}
use Rattle.word_laws.proofs.Tests.{all_below-same}

list_all-range : (f : ℕ → Bool) (k n : ℕ) → list_all f (range_with_len k n) ≡ all_below n (λ i. f (k + i))
unfolding all_below
list_all-range f k zero = refl
list_all-range f k (suc n) =
    ap (λ b. f k && b) (list_all-range f (k + 1) n ∙ all_below-same n (λ i. f (k + 1 + i)) (λ i. f (k + suc i)) (λ i h. ap f (omega arith)))
    ∙ ap (λ m. f m && all_below n (λ i. f (k + suc i))) (omega arith)
    ∙ sym (all_below-first n (λ i. f (k + i)))

-- the closure of an `all` over 0 .. n computes the test: so `all` answers whether all below n pass it
pub all_below-from_all :
    {F : Type 0} {g : Mut F (ℕ × Unit {0}) Bool} (test : ℕ → Bool) (n : ℕ) (u : Range ℕ) (f : F) (r : Bool)
    → (xs : List ℕ) × (o : Option ℕ) × (j : F) × YieldsThen nat_range_steps (record { start = 0; end = n }) xs o u × FoldsTo (λ p x q. Called g p (x, tt) true q) f xs j × MatchOption o (r ≡ true) (λ x. (r ≡ false) × ((h : F) × Called g j (x, tt) false h))
    → ((x : ℕ) (b : Bool) (q : F) → Called g f (x, tt) b q → (q ≡ f) × (b ≡ test x))
    → r ≡ all_below n test
all_below-from_all test n u f r ran computes =
    all_from_yields_List test u f r ran (YieldsList-from_range 0 n n refl (omega arith)) computes
    ∙ list_all-range test 0 n
    ∙ all_below-same n (λ i. test (0 + i)) test (λ i h. ap test (omega arith))
