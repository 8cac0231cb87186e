-- Parts of a list in which bytes were replaced, and of a list that is made by index.
-- Assumes nothing.
use Prim.Native.Nat.{ℕ, zero, suc, ◌+◌, ◌-◌, ◌≤◌, min}
use native.Mathlib.Omega.{arith}
use mathlib.Core.Path.{◌≡◌, refl, sym, ap, ◌∙◌}
use mathlib.Core.List.{List, [], ◌∷◌, ◌++◌, append_assoc}
use lib.ListN.{length, take, drop}
use lib.Seq.{length-take-le, take_at, drop_at, take-take}
use Rattle.words.specs.Lists.{tab}
use Rattle.words.specs.Bytes.{part}
use Rattle.table_write.specs.Writing.{over}
use Rattle.table_write.proofs.Over.{take-over, drop-over}

-- ---- a part of a part

module _ {A : Type 0} where
  part-take : (m i n : ℕ) (l : List A) → i + n ≤ m → take n (drop i (take m l)) ≡ take n (drop i l)
  part-take m zero n l h = take-take n m l (omega arith)
  part-take zero (suc i) n l h = absurd (omega arith)
  part-take (suc m) (suc i) n [] h = refl
  part-take (suc m) (suc i) n (x ∷ l) h = part-take m i n l (omega arith)

-- ---- a part of a list in which bytes were replaced

module _ (s : List ℕ) (at n : ℕ) (vs : List ℕ) (sized : length vs ≡ n) (fits : at + n ≤ length s) where
  pub part-before : (i m : ℕ) → i + m ≤ at → part (over s at n vs) i m ≡ part s i m
  part-before i m h =
      sym (part-take at i m (over s at n vs) h)
      ∙ ap (λ (l : List ℕ). take m (drop i l)) (take-over s at n vs sized fits at (omega arith))
      ∙ part-take at i m s h

  pub part-behind : (i m : ℕ) → at + n ≤ i → part (over s at n vs) i m ≡ part s i m
  part-behind i m h = ap (take m) (drop-over s at n vs sized fits i h)

  pub part-here : part (over s at n vs) at n ≡ vs
  part-here =
      rw (append_assoc, drop_at (take at s) (vs ++ drop (at + n) s) at (length-take-le at s (omega arith)))
      (take_at vs (drop (at + n) s) n sized)

-- ---- a list that is made by index

module _ {A : Type 0} where
  tab-drop : (f : ℕ → A) (k n i : ℕ) → drop i (tab f k n) ≡ tab f (k + i) (n - i)
  unfolding tab
  tab-drop f k n zero = let e : k + 0 ≡ k = omega arith in let d : n - 0 ≡ n = omega arith in rw (e, d)
  tab-drop f k zero (suc i) = let d : 0 - suc i ≡ 0 = omega arith in rw d
  tab-drop f k (suc n) (suc i) =
      let e : k + suc i ≡ suc k + i = omega arith in
      let d : suc n - suc i ≡ n - i = omega arith in
      rw (e, d) (tab-drop f (suc k) n i)

  tab-take : (f : ℕ → A) (k n i : ℕ) → take i (tab f k n) ≡ tab f k (min i n)
  unfolding tab
  tab-take f k n zero = let e : min 0 n ≡ 0 = omega arith in rw e
  tab-take f k zero (suc i) = let e : min (suc i) 0 ≡ 0 = omega arith in rw e
  tab-take f k (suc n) (suc i) =
      let e : min (suc i) (suc n) ≡ suc (min i n) = omega arith in
      rw e (ap {B = List A} (λ r. f k ∷ r) (tab-take f (suc k) n i))

  tab-shift : (f : ℕ → A) (k n i : ℕ) → tab f (k + i) n ≡ tab (λ j. f (k + j)) i n
  unfolding tab
  tab-shift f k zero i = refl
  tab-shift f k (suc n) i = ap {B = List A} (λ r. f (k + i) ∷ r) (ap (λ j. tab f j n) (omega arith) ∙ tab-shift f k n (suc i))

  -- m values from the i-th on, where there are so many
  pub part-tab : (f : ℕ → A) (n i m : ℕ) → take m (drop i (tab f 0 n)) ≡ tab (λ j. f (i + j)) 0 (min m (n - i))
  part-tab f n i m =
      ap (take m) (tab-drop f 0 n i ∙ ap (λ k. tab f k (n - i)) (omega arith) ∙ tab-shift f i (n - i) 0)
      ∙ tab-take (λ j. f (i + j)) 0 (n - i) m
