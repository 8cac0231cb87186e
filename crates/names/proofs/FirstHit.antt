-- Where the first that applies was found, and when it must be found.
-- Assumes nothing.
use Prim.Native.Nat.{ℕ, zero, suc, ◌+◌, ◌≤◌, ◌<◌}
use native.Mathlib.Decide.{dec_lt}
use native.Mathlib.Omega.{arith}
use mathlib.Core.Path.{◌≡◌, refl, sym, ap, ◌∙◌}
use mathlib.Core.Bool.{Bool, true, false, cond}
use mathlib.Core.Option.{Option, none, some}
use Rattle.std.specs.declared.option.Option.{Option as Found}
use Rattle.std.specs.declared.option.Option.TheVariants.{None, Some}
use Rattle.std.specs.Option.{MatchOption}
use Rattle.words.specs.First.{◌or_else◌, first}
use Rattle.word_laws.proofs.First.{none-at, none-or_else, first-none}
use Rattle.names.specs.Code.{said_of}

-- one of f k, f (k + 1), .., n in all, gives a
pub record Hit {A : Type 0} (f : ℕ → Option A) (k n : ℕ) (a : A) : Type 0 where
  pub place : ℕ
  pub low : k ≤ place
  pub high : place < k + n
  pub hit : f place ≡ some a

module _ {A : Type 0} where
  -- what is found was found somewhere
  pub found : (f : ℕ → Option A) (k n : ℕ) (a : A) → first f k n ≡ some a → Hit f k n a
  unfolding first ◌or_else◌
  found f k zero a e = let z : ◌≡◌ {A = ℕ} 0 1 = cc in absurd (omega arith)
  found f k (suc n) a e = go (f k) refl e (found f (suc k) n a)
    where
      go : (o : Option A) → f k ≡ o → o or_else first f (suc k) n ≡ some a → (first f (suc k) n ≡ some a → Hit f (suc k) n a) → Hit f k (suc n) a
      go none h e later = let x = later e in record { place = x.place; low = omega arith; high = omega arith; hit = x.hit }
      go (some b) h e later = record { place = k; low = omega arith; high = omega arith; hit = h ∙ e }

  -- where all that apply say the same, the first of them says it
  pub found-only : (f : ℕ → Option A) (k n : ℕ) (a : A) → Hit f k n a → ((b : A) → Hit f k n b → b ≡ a) → first f k n ≡ some a
  found-only f k n a x same = go (first f k n) refl
    where
      go : (o : Option A) → first f k n ≡ o → o ≡ some a
      go none e = cc (none-at f k n x.place e x.low x.high, x.hit)
      go (some b) e = ap some (same b (found f k n b e))

  -- what applies under a test
  pub passed : (t : Bool) (a b : A) → cond t (some a) none ≡ some b → t ≡ true
  passed true a b e = refl
  passed false a b e = cc

  pub passed-as : (t : Bool) (a b : A) → cond t (some a) none ≡ some b → a ≡ b
  passed-as true a b e = cc
  passed-as false a b e = cc

  -- a hit after none is the first
  first-after : (f : ℕ → Option A) (k n i : ℕ) (a : A) → k ≤ i → i < k + n → f i ≡ some a → ((j : ℕ) → k ≤ j → j < i → f j ≡ none) → first f k n ≡ some a
  unfolding first ◌or_else◌
  first-after f k zero i a lo hi h before = absurd (omega arith)
  first-after f k (suc n) i a lo hi h before = go (dec_lt k i) (first-after f (suc k) n i a)
    where
      go : Dec (k < i)
          → (suc k ≤ i → i < suc k + n → f i ≡ some a → ((j : ℕ) → suc k ≤ j → j < i → f j ≡ none) → first f (suc k) n ≡ some a)
          → f k or_else first f (suc k) n ≡ some a
      go (yes l) later =
          none-or_else (f k) (first f (suc k) n) (before k (omega arith) l) ∙ later (omega arith) (omega arith) h (λ j g m. before j (omega arith) m)
      go (no g) later = let e : i ≡ k = omega arith in rw (rw e at h)

  -- what is found by `find` over 0, 1, .., n - 1 is the first that passes the test
  pub first-found :
      (t : ℕ → Bool) (v : ℕ → A) (n : ℕ) (o : Found ℕ)
      → MatchOption o ((k : ℕ) → 0 ≤ k → k < n → t k ≡ false) (λ i. (0 ≤ i) × (i < n) × (t i ≡ true) × ((k : ℕ) → 0 ≤ k → k < i → t k ≡ false))
      → said_of v o ≡ first (λ i. cond (t i) (some (v i)) none) 0 n
  first-found t v n None h = sym (first-none (λ i. cond (t i) (some (v i)) none) 0 n (λ i lo hi. rw (h i lo (omega arith))))
  first-found t v n (Some i) h =
      sym (first-after (λ j. cond (t j) (some (v j)) none) 0 n i (v i) (omega arith) (omega (arith, h.1)) (rw h.2) (λ j lo hi. rw (h.3 j lo hi)))
