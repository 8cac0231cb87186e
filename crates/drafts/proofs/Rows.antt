-- Rows of parts of one width between other bytes: one part written over, and one part read.
-- Assumes nothing.
use Prim.Native.Nat.{ℕ, zero, suc, ◌+◌, ◌*◌, ◌<◌}
use native.Mathlib.Nat.{mul-zero, add-zero, zero-add}
use native.Mathlib.Omega.{arith}
use mathlib.Core.Path.{◌≡◌, sym, ap, ap₂, ◌∙◌}
use mathlib.Core.List.{List, [], ◌++◌, flatten, append_assoc}
use lib.ListN.{length, take, length-append}
use lib.Seq.{take_at, drop_at, drop-drop}
use Rattle.words.specs.Lists.{tab}
use Rattle.words.specs.Bytes.{part}
use Rattle.word_laws.proofs.Every.{every-tab}
use Rattle.word_laws.proofs.Lists.{tab-cong, part-flatten, length-tab, get_d-tab}
use Rattle.table_write.specs.Writing.{over}

-- a part between two others, written over
middle : (p q q' r : List ℕ) (at w : ℕ) → length p ≡ at → length q ≡ w → over (p ++ q ++ r) at w q' ≡ p ++ q' ++ r
middle p q q' r at w e f =
    ap₂ {C = List ℕ} (λ x y. x ++ q' ++ y)
    (ap (take at) (append_assoc p q r) ∙ take_at p (q ++ r) at e)
    (drop_at (p ++ q) r (at + w) (rw (length-append, e, f)))

module _ (w : ℕ) (f : ℕ → List ℕ) (wide : (j : ℕ) → length (f j) ≡ w) where
  -- one part of a row, counted from the k-th, written over: with it the parts are g's
  put-from :
      (g : ℕ → List ℕ) (p r : List ℕ) (at k n i : ℕ) → length p ≡ at → i < n → ((j : ℕ) → (j ≡ k + i → ⊥) → f j ≡ g j)
      → over (p ++ flatten (tab f k n) ++ r) (at + w * i) w (g (k + i)) ≡ p ++ flatten (tab g k n) ++ r
  unfolding flatten tab
  put-from g p r at k zero i e h same = absurd (omega arith)
  put-from g p r at k (suc n) zero e h same =
      let rest = flatten (tab f (suc k) n) in
      rw (mul-zero, add-zero at, add-zero k, ← tab-cong f g (suc k) n (λ j lo hi. same j (λ z. omega arith)))
      (rw (← append_assoc p (f k) rest, ← append_assoc p (g k) rest, append_assoc (p ++ f k) rest r, append_assoc (p ++ g k) rest r)
      (middle p (f k) (g k) (rest ++ r) at w e (wide k)))
  put-from g p r at k (suc n) (suc i) e h same =
      let next : at + w * suc i ≡ at + w + w * i = omega arith in
      let part : k + suc i ≡ suc k + i = omega arith in
      rw
      (← append_assoc p (f k) (flatten (tab f (suc k) n)), ← append_assoc p (g k) (flatten (tab g (suc k) n)), next, part, ← same k (λ x. omega arith))
      (put-from g (p ++ f k) r (at + w) (suc k) n i (rw (length-append, e, wide k)) (omega arith) (λ j b. same j (λ x. b (omega arith))))

  module _ (p r : List ℕ) (at n i : ℕ) (e : length p ≡ at) (h : i < n) where
    -- part i written over
    pub part-put : (g : ℕ → List ℕ) → ((j : ℕ) → (j ≡ i → ⊥) → f j ≡ g j)
        → over (p ++ flatten (tab f 0 n) ++ r) (at + w * i) w (g i) ≡ p ++ flatten (tab g 0 n) ++ r
    part-put g same =
        ap (λ (j : ℕ). over (p ++ flatten (tab f 0 n) ++ r) (at + w * i) w (g j)) (sym (zero-add i))
        ∙ put-from g p r at 0 n i e h (λ j b. same j (λ x. b (omega arith)))

    -- part i read
    pub part_of : part (p ++ flatten (tab f 0 n) ++ r) (at + w * i) w ≡ f i
    part_of =
        rw
        (← drop-drop (w * i) at (p ++ flatten (tab f 0 n) ++ r), append_assoc p (flatten (tab f 0 n)) r, drop_at p (flatten (tab f 0 n) ++ r) at e)
        (part-flatten w i r (every-tab f 0 n (λ j lo hi. wide j)) (rw length-tab h) ∙ get_d-tab f 0 n i [] h ∙ ap f (zero-add i))
