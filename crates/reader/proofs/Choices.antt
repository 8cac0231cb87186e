-- The one or the other, where the next byte tells which.
-- Assumes nothing.
use Prim.Native.Nat.{ℕ, ◌≤◌, ◌<◌}
use mathlib.Core.Path.{◌≡◌, refl, sym, ◌∙◌}
use mathlib.Core.Bool.{Bool, true, false}
use mathlib.Core.List.{List}
use borrow.Author.Tests.{eqb-true, eqb-false}
use lib.Dec.{eqb}
use lib.ListN.{length, get_or}
use Rattle.std.specs.Prelude.{Result}
use Rattle.forms.specs.Form.{Form, nothing, ◌or◌, may_end, joined, left}
use Rattle.forms.proofs.Laws.{either-nothing, nothing-either}
use Rattle.forms.proofs.Sequence.{left_or, begun, left-joined}
use Rattle.xml.specs.Grammar.{◌▸◌}
use Rattle.reader.specs.Scan.{Scans}
use Rattle.reader.specs.declared.misfit.Misfit.{Misfit}
use Rattle.reader.proofs.Scans.{goes-found}
use Rattle.reader.proofs.Steps.{goes_same}
use Rattle.reader.proofs.Pieces.{ends-then}

-- what holds of two numbers, holds of one that is the one or the other
pub one_of_two : (P : ℕ → Type 0) (m n c : ℕ) → P m → P n → ((c ≡ m → ⊥) → c ≡ n) → P c
one_of_two P m n c p q e = go (eqb c m) refl
  where
    go : (x : Bool) → eqb c m ≡ x → P c
    go true d = rw (eqb-true c m d) p
    go false d = rw (e (eqb-false c m d)) q

module _ (f g k : Form) (e : may_end f ≡ false) (d : may_end g ≡ false) where
  ends : may_end ((f or g) ▸ k) ≡ false
  unfolding may_end joined
  ends = rw (e, d)

  -- a byte that the second does not begin with is left to the first, and so the other way
  left-first : (b : ℕ) → begun f ≡ true → left g b ≡ nothing → left ((f or g) ▸ k) b ≡ left (f ▸ k) b
  left-first b s l = left_or f g k b ∙ rw (e, d, l, either-nothing (left f b), either-nothing (joined (left f b) k)) (sym (left-joined f k b s))

  left-second : (b : ℕ) → begun g ≡ true → left f b ≡ nothing → left ((f or g) ▸ k) b ≡ left (g ▸ k) b
  left-second b s l = left_or f g k b ∙ rw (e, d, l, nothing-either (left g b), either-nothing (joined (left g b) k)) (sym (left-joined g k b s))

module _ (f g : Form) {t : List ℕ} {a : ℕ} {r : Result ℕ Misfit} (e : may_end f ≡ false) (d : may_end g ≡ false) (fit : a ≤ length t) where
  pub scans-first : begun f ≡ true → (a < length t → left g (get_or t a 0) ≡ nothing) → Scans f t a r → Scans (f or g) t a r
  scans-first s l p k hope =
      goes-found ((f or g) ▸ k) (f ▸ k) k
      (goes_same ((f or g) ▸ k) (f ▸ k) fit (ends f g k e d ∙ sym (ends-then f k ∙ rw e)) (λ h. left-first f g k e d (get_or t a 0) s (l h)))
      (p k hope)

  pub scans-second : begun g ≡ true → (a < length t → left f (get_or t a 0) ≡ nothing) → Scans g t a r → Scans (f or g) t a r
  scans-second s l p k hope =
      goes-found ((f or g) ▸ k) (g ▸ k) k
      (goes_same ((f or g) ▸ k) (g ▸ k) fit (ends f g k e d ∙ sym (ends-then g k ∙ rw d)) (λ h. left-second f g k e d (get_or t a 0) s (l h)))
      (p k hope)
