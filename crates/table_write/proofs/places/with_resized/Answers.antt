use Prim.Native.Nat.{ℕ}
use native.Mathlib.Omega.{arith}
use mathlib.Core.Path.{◌≡◌, refl, sym, ap, ◌∙◌}
use mathlib.Core.Bool.{Bool, true, false, not, ◌||◌}
use borrow.Author.Tests.{eqb-true, eqb-false, eq-eqb, ne_eqb}
use lib.Dec.{eqb}
use Rattle.fields.specs.Code.{has_block}
use Rattle.table_write.specs.Writing.{count_in}
use Rattle.table_write.proofs.places.with_resized.Goals as goal

-- which comes first does not matter
turned : (x y : ℕ) → eqb x y ≡ eqb y x
turned x y = go (eqb y x) refl
  where
    go : (b : Bool) → eqb y x ≡ b → eqb x y ≡ b
    go true e = eq-eqb x y (sym (eqb-true y x e))
    go false e = ne_eqb x y (λ z. eqb-false y x e (sym z))

pub returns-then-after-before : goal.returns-then-after-before
returns-then-after-before c k =
    let a = c.args in
    c.with_grown-then-after-before.ensures k ∙ ap (λ b. not b || has_block a.changed k) (turned (count_in a.after k) (count_in a.before k))

pub returns : goal.returns
returns c k =
    let a = c.args in
    let e : a.before ≡ a.after = omega arith in
    sym (ap (λ b. not b || has_block a.changed k) (eq-eqb (count_in a.before k) (count_in a.after k) (ap (λ (x : ℕ). count_in x k) e)))
