-- The count of step 3 over no request is 0, and over fewer requests it is no greater.
-- Assumes nothing.
use Prim.Native.Nat.{ℕ, zero, suc, ◌<◌, ◌≤◌, min}
use mathlib.Core.Path.{◌≡◌, refl}
use mathlib.Core.Bool.{Bool, true, false, cond, ◌||◌}
use mathlib.Core.List.{List, [], ◌∷◌}
use native.Mathlib.Nat.{min-zero}
use native.Mathlib.Omega.{arith}
use borrow.Author.Tests.{lt-leb, leb-false}
use lib.ListN.{length}
use lib.Dec.{eqb}
use Rattle.words.specs.Lists.{keep, any_of, sum_below}
use Rattle.format.specs.Request.{Request}
use Rattle.format.specs.Rule.{Exclusion}
use Rattle.judge.specs.Tally.{counts_for, role_tally, times_listed, times_done, repeats, privilege_tally, tally, reached}

-- ---- no requests, no count

sum-zero : (n : ℕ) (f : ℕ → ℕ) → ((i : ℕ) → f i ≡ 0) → sum_below n f ≡ 0
unfolding sum_below
sum-zero zero f h = refl
sum-zero (suc n) f h = rw (h n, sum-zero n f h)

tally-none : (x : Exclusion) → tally x [] ≡ 0
unfolding tally role_tally privilege_tally times_done keep any_of
tally-none x = go (eqb x.kind 1)
  where
    privileges : (i : ℕ) → cond (repeats x i) 0 (min (times_listed x i) 0) ≡ 0
    privileges i = rw (min-zero (times_listed x i)) (both (repeats x i))
      where
        both : (b : Bool) → ◌≡◌ {A = ℕ} (cond b 0 0) 0
        both true = refl
        both false = refl

    go : (b : Bool) → cond b (role_tally x []) (privilege_tally x []) ≡ 0
    go true = sum-zero x.n _ (λ i. refl)
    go false = sum-zero x.n _ privileges

pub none-reached : (x : Exclusion) → 0 < x.m → reached x [] ≡ false
unfolding reached
none-reached x h = rw tally-none (lt-leb x.m 0 h)

-- ---- fewer requests, no greater count

sum-fewer : (n : ℕ) (f g : ℕ → ℕ) → ((i : ℕ) → f i ≤ g i) → sum_below n f ≤ sum_below n g
unfolding sum_below
sum-fewer zero f g h = omega arith
sum-fewer (suc n) f g h = omega (arith, h n, sum-fewer n f g h)

module _ (f t : Request → Bool) where
  fewer-seen : (qs : List Request) → ◌≤◌ (cond (any_of f (keep t qs)) 1 0) (cond (any_of f qs) 1 0)
  unfolding any_of keep
  fewer-seen [] = omega arith
  fewer-seen (q ∷ qs) = go (t q) (f q) refl (fewer-seen qs)
    where
      most : (c : Bool) → ◌≤◌ (cond c 1 0) 1
      most true = omega arith
      most false = omega arith

      go :
          (a b : Bool) → f q ≡ b → ◌≤◌ (cond (any_of f (keep t qs)) 1 0) (cond (any_of f qs) 1 0)
          → ◌≤◌ (cond (any_of f (cond a (q ∷ keep t qs) (keep t qs))) 1 0) (cond (b || any_of f qs) 1 0)
      go true true e h = rw e (omega arith)
      go true false e h = rw e h
      go false true e h = most (any_of f (keep t qs))
      go false false e h = h

  fewer-done : (qs : List Request) → length (keep f (keep t qs)) ≤ length (keep f qs)
  unfolding keep
  fewer-done [] = omega arith
  fewer-done (q ∷ qs) = go (t q) (f q) refl (fewer-done qs)
    where
      go :
          (a b : Bool) → f q ≡ b → length (keep f (keep t qs)) ≤ length (keep f qs)
          → length (keep f (cond a (q ∷ keep t qs) (keep t qs))) ≤ length (cond b (q ∷ keep f qs) (keep f qs))
      go true true e h = rw e (omega (arith, h))
      go true false e h = rw e h
      go false true e h = omega (arith, h)
      go false false e h = h

tally-fewer : (x : Exclusion) (t : Request → Bool) (qs : List Request) → tally x (keep t qs) ≤ tally x qs
unfolding tally role_tally privilege_tally times_done
tally-fewer x t qs = go (eqb x.kind 1)
  where
    privileges :
        (i : ℕ)
        → ◌≤◌ (cond (repeats x i) 0 (min (times_listed x i) (length (keep (counts_for x i) (keep t qs)))))
        (cond (repeats x i) 0 (min (times_listed x i) (length (keep (counts_for x i) qs))))
    privileges i = both (repeats x i)
      where
        both :
            (b : Bool)
            → ◌≤◌ (cond b 0 (min (times_listed x i) (length (keep (counts_for x i) (keep t qs)))))
            (cond b 0 (min (times_listed x i) (length (keep (counts_for x i) qs))))
        both true = omega arith
        both false = omega (arith, fewer-done (counts_for x i) t qs)

    go : (b : Bool) → ◌≤◌ (cond b (role_tally x (keep t qs)) (privilege_tally x (keep t qs))) (cond b (role_tally x qs) (privilege_tally x qs))
    go true = sum-fewer x.n _ _ (λ i. fewer-seen (counts_for x i) t qs)
    go false = sum-fewer x.n _ _ privileges

-- who has not reached m has not by some of it
pub fewer-reached : (x : Exclusion) (t : Request → Bool) (qs : List Request) → reached x qs ≡ false → reached x (keep t qs) ≡ false
unfolding reached
fewer-reached x t qs h = lt-leb x.m (tally x (keep t qs)) (omega (arith, leb-false x.m (tally x qs) h, tally-fewer x t qs))
