-- Lists of at most one width, of which none stands behind one that is not full: joined, and cut at that width, they are the same lists again.
-- Assumes nothing.
use Prim.Native.Nat.{ℕ, zero, suc, ◌+◌, ◌*◌, ◌≤◌, ◌<◌}
use native.Mathlib.Nat.{mul-suc, mul-zero, add-zero}
use native.Mathlib.Decide.{dec_lt}
use native.Mathlib.Omega.{arith}
use mathlib.Core.Path.{◌≡◌, refl, sym, ap, ◌∙◌}
use mathlib.Core.List.{List, [], ◌++◌, flatten, append-nil}
use lib.ListN.{length, take, drop, length-append, drop_of_length-le}
use lib.Seq.{take_at, take_all, take-nil}
use Rattle.words.specs.Lists.{tab}
use Rattle.word_laws.proofs.Lists.{drop-part}

module _ {A : Type 0} where
  pub record Packed (w : ℕ) (f : ℕ → List A) (k n : ℕ) : Type 0 where
    pub narrow : (i : ℕ) → k ≤ i → i < k + n → length (f i) ≤ w
    pub full : (j i : ℕ) → k ≤ j → j < i → i < k + n → length (f j) < w → f i ≡ []

  pub packed-rest : {w : ℕ} {f : ℕ → List A} {k n : ℕ} → Packed w f k (suc n) → Packed w f (suc k) n
  packed-rest p =
      record {
        narrow = λ i lo hi. p.narrow i (omega arith) (omega arith);
        full = λ j i lo lt hi short. p.full j i (omega arith) lt (omega arith) short;
      }

  pub flatten-empty : (f : ℕ → List A) (k n : ℕ) → ((i : ℕ) → k ≤ i → i < k + n → f i ≡ []) → flatten (tab f k n) ≡ []
  unfolding flatten tab
  flatten-empty f k zero h = refl
  flatten-empty f k (suc n) h =
      rw (h k (omega arith) (omega arith)) (flatten-empty f (suc k) n (λ i lo hi. h i (omega arith) (omega arith)))

  -- behind a list that is not full there is nothing
  rest-empty : {w : ℕ} {f : ℕ → List A} {k n : ℕ} → Packed w f k (suc n) → length (f k) < w → flatten (tab f (suc k) n) ≡ []
  rest-empty {f} {k} {n} p short = flatten-empty f (suc k) n (λ i lo hi. p.full k i (omega arith) (omega arith) (omega arith) short)

  pub part-packed : (w : ℕ) (f : ℕ → List A) (k n i : ℕ) → Packed w f k n → i < n → take w (drop (w * i) (flatten (tab f k n))) ≡ f (k + i)
  unfolding flatten tab
  part-packed w f k zero i p h = absurd (omega arith)
  part-packed w f k (suc n) zero p h = rw (mul-zero, add-zero) (go (dec_lt (length (f k)) w))
    where
      go : Dec (length (f k) < w) → take w (f k ++ flatten (tab f (suc k) n)) ≡ f k
      go (yes short) = rw (rest-empty p short, append-nil) (take_all w (f k) (omega arith))
      go (no g) = take_at (f k) (flatten (tab f (suc k) n)) w (omega (arith, p.narrow k (omega arith) (omega arith)))
  part-packed w f k (suc n) (suc i) p h = go (part-packed w f (suc k) n i (packed-rest p) (omega arith)) (dec_lt (length (f k)) w)
    where
      go : take w (drop (w * i) (flatten (tab f (suc k) n))) ≡ f (suc k + i) → Dec (length (f k) < w)
          → take w (drop (w * suc i) (f k ++ flatten (tab f (suc k) n))) ≡ f (k + suc i)
      go ih (yes short) =
          rw (rest-empty p short, append-nil, drop_of_length-le (f k) {i = w * suc i} (rw mul-suc (omega arith)), take-nil)
          (sym (p.full k (k + suc i) (omega arith) (omega arith) (omega arith) short))
      go ih (no g) =
          rw (drop-part w i (f k) (flatten (tab f (suc k) n)) (omega (arith, p.narrow k (omega arith) (omega arith))))
          (ih ∙ ap f (omega arith))

  pub length-packed : (w : ℕ) (f : ℕ → List A) (k n : ℕ) → Packed w f k n → length (flatten (tab f k n)) ≤ w * n
  unfolding flatten tab
  length-packed w f k zero p = omega arith
  length-packed w f k (suc n) p =
      rw (mul-suc, length-append) (omega (arith, length-packed w f (suc k) n (packed-rest p), p.narrow k (omega arith) (omega arith)))
