-- Bytes that are copied from a lent part, and bytes that are changed where they were copied to.
-- Assumes nothing.
use Prim.Native.Nat.{ℕ, ◌+◌, ◌≤◌}
use native.Mathlib.Omega.{arith}
use mathlib.Core.Path.{◌≡◌, ap, ◌∙◌}
use mathlib.Core.List.{List, ◌++◌}
use lib.ListN.{length, take, drop}
use lib.Seq.{take-take}
use Rattle.words.specs.Bytes.{part}
use Rattle.table_write.specs.Writing.{over}
use Rattle.table_write.proofs.Over.{take-over, drop-over, part-back}
use Rattle.table_write.proofs.Parts.{part-here}

-- the first n bytes of a lent part of n bytes are all of it
pub copied-part : (s out : List ℕ) (from to m n : ℕ) {out₁ : List ℕ} → m ≡ n → out₁ ≡ over out to n (take n (take m (drop from s)))
    → out₁ ≡ over out to n (part s from n)
copied-part s out from to m n e put = put ∙ ap (over out to n) (rw e (take-take n n (drop from s) (omega arith)))

module _ (s : List ℕ) (at n : ℕ) (vs : List ℕ) (sized : length vs ≡ n) (fits : at + n ≤ length s) where
  -- bytes replaced twice at one byte: the later ones stay
  pub over-again : (ws : List ℕ) → over (over s at n vs) at n ws ≡ over s at n ws
  over-again ws = rw (take-over s at n vs sized fits at (omega arith), drop-over s at n vs sized fits (at + n) (omega arith))

  -- bytes that were put there, lent, and came back changed
  pub remade : (f : List ℕ → List ℕ) (m : ℕ) {s₁ ys : List ℕ} → m ≡ n → s₁ ≡ over s at n vs → ys ≡ f (take m (drop at s₁))
      → take at s₁ ++ (ys ++ drop m (drop at s₁)) ≡ over s at n (f vs)
  remade f m {s₁} {ys} e put made =
      part-back s₁ ys (f vs) at m n e (made ∙ ap f (rw (e, put) (part-here s at n vs sized fits)))
      ∙ ap (λ (l : List ℕ). over l at n (f vs)) put
      ∙ over-again (f vs)
