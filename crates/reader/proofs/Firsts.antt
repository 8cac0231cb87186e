-- A byte that a form does not begin with leaves no hope.
-- Assumes nothing.
use Prim.Native.Nat.{ℕ}
use mathlib.Core.Path.{◌≡◌, refl, ◌∙◌}
use mathlib.Core.Bool.{Bool, true, false, cond, not}
use mathlib.Core.List.{List, [], ◌∷◌, ◌++◌}
use borrow.Author.Tests.{not-false}
use Rattle.words.specs.Lists.{any_of}
use Rattle.word_laws.proofs.Tests.{neither-first, neither-second}
use Rattle.forms.specs.Form.{is_of, Form, nothing, blank, one, ◌then◌, ◌or◌, many, may_end, hopeless, joined, left}
use Rattle.forms.proofs.Laws.{hopeless-either, hopeless-joined}
use Rattle.reader.proofs.Rule.{firsts}

-- what no element of two lists passes, none of either does
module _ {A : Type 0} (p : A → Bool) where
  none-front : (l m : List A) → any_of p (l ++ m) ≡ false → any_of p l ≡ false
  unfolding any_of
  none-front [] m e = refl
  none-front (x ∷ l) m e = rw (neither-first (p x) _ e) (none-front l m (neither-second (p x) _ e))

  none-back : (l m : List A) → any_of p (l ++ m) ≡ false → any_of p m ≡ false
  unfolding any_of
  none-back [] m e = e
  none-back (x ∷ l) m e = none-back l m (neither-second (p x) _ e)

  -- where each that passes p would be one that q counts, and q leaves none out, none passes p
  pub none-by : (q : A → Bool) (l : List A) → any_of (λ x. not (q x)) l ≡ false → ((x : A) → q x ≡ true → p x ≡ false) → any_of p l ≡ false
  unfolding any_of
  none-by q [] e h = refl
  none-by q (x ∷ l) e h =
      rw (h x (not-false (q x) (neither-first (not (q x)) _ e))) (none-by q l (neither-second (not (q x)) _ e) h)

pub no-first : (f : Form) (b : ℕ) → any_of (λ k. is_of k b) (firsts f) ≡ false → hopeless (left f b) ≡ true
unfolding firsts any_of left hopeless
no-first nothing b e = refl
no-first blank b e = refl
no-first (one k) b e = rw (neither-first (is_of k b) false e)
no-first (f then g) b e =
    hopeless-either (joined (left f b) g) (cond (may_end f) (left g b) nothing)
    ∙ rw (hopeless-joined (left f b) g, no-first f b (none-front (λ k. is_of k b) (firsts f) (cond (may_end f) (firsts g) []) e))
    (go (may_end f) (none-back (λ k. is_of k b) (firsts f) (cond (may_end f) (firsts g) []) e) (λ d. no-first g b d))
  where
    go : (x : Bool) → any_of (λ k. is_of k b) (cond x (firsts g) []) ≡ false → (any_of (λ k. is_of k b) (firsts g) ≡ false → hopeless (left g b) ≡ true)
        → hopeless (cond x (left g b) nothing) ≡ true
    go true d h = h d
    go false d h = refl
no-first (f or g) b e =
    hopeless-either (left f b) (left g b)
    ∙ rw (no-first f b (none-front (λ k. is_of k b) (firsts f) (firsts g) e), no-first g b (none-back (λ k. is_of k b) (firsts f) (firsts g) e))
no-first (many f) b e = hopeless-joined (left f b) (many f) ∙ rw (no-first f b e)
