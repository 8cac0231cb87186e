-- The shapes and the bounds of a policy's rules, which are made one after another in an array.
-- Assumes nothing.
use Rattle.std.proofs.Common.{◌≡◌, ℕ, ◌+◌, ◌<◌, List, length, get_or, set, ◌∙◌, arith, get_or-set_other, get_or-set_same}
use native.Mathlib.Decide.{dec_lt}
use Rattle.format.specs.Policy.{Policy}
use Rattle.rule_tests.specs.declared.shapes.Shape.{Shape}
use Rattle.rule_tests.specs.declared.bounds.Bound.{Bound}
use Rattle.rule_tests.specs.Shapes.{no_shape, shape_of, Narrow, Shapes}
use Rattle.rule_tests.specs.Bounds.{no_bound, bound_of, Bounds}

-- the first k elements are as they should be: so are the first k + 1 when the next has been put behind them
put-more : {A : Type 0} (d : A) (f : ℕ → A) (out : List A) (k : ℕ) (x : A) → ((j : ℕ) → j < k → get_or out j d ≡ f j) → k < length out → x ≡ f k
    → (j : ℕ) → j < k + 1 → get_or (set out k x) j d ≡ f j
put-more d f out k x made inside e j h = go (dec_lt j k)
  where
    go : Dec (j < k) → get_or (set out k x) j d ≡ f j
    go (yes b) = get_or-set_other out k j x d (λ s. omega arith) ∙ made j b
    go (no b) = let s : j ≡ k = omega arith in rw s (get_or-set_same out k x d inside ∙ e)

-- of numbers
abbrev pub Made : (ℕ → ℕ) → List ℕ → ℕ → Type 0
Made f out k = (j : ℕ) → j < k → get_or out j 0 ≡ f j

pub made_more : (f : ℕ → ℕ) (out : List ℕ) (k x : ℕ) → Made f out k → k < length out → x ≡ f k → Made f (set out k x) (k + 1)
made_more = put-more 0

module _ (p : Policy) where
  narrow-more : (k : ℕ) → ((i : ℕ) → i < k → Narrow (p.rule i)) → Narrow (p.rule k) → (i : ℕ) → i < k + 1 → Narrow (p.rule i)
  narrow-more k made next i h = go (dec_lt i k)
    where
      go : Dec (i < k) → Narrow (p.rule i)
      go (yes b) = made i b
      go (no b) = let s : i ≡ k = omega arith in rw s next

  pub shapes_more : (out : List Shape) (k : ℕ) (x : Shape) → Shapes p k out → k < length out → x ≡ shape_of (p.rule k) → Narrow (p.rule k) → Shapes p (k + 1) (set out k x)
  shapes_more out k x made inside e next =
      record { shape = put-more no_shape (λ i. shape_of (p.rule i)) out k x made.shape inside e; narrow = narrow-more k made.narrow next }

  pub bounds_more : (out : List Bound) (k : ℕ) (x : Bound) → Bounds p k out → k < length out → x ≡ bound_of (p.rule k) → Narrow (p.rule k) → Bounds p (k + 1) (set out k x)
  bounds_more out k x made inside e next =
      record { bound = put-more no_bound (λ i. bound_of (p.rule i)) out k x made.bound inside e; narrow = narrow-more k made.narrow next }
