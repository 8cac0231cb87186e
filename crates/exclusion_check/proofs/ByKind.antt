-- A test that goes by a kind, 1 or 2, at each of the kinds and at any other.
-- Assumes nothing.
use Prim.Native.Nat.{ℕ}
use mathlib.Core.Path.{◌≡◌, refl}
use mathlib.Core.Bool.{Bool, true, false, ◌&&◌, ◌||◌}
use lib.Dec.{eqb}
use borrow.Author.Tests.{ne_eqb}

abbrev pub by_kind : ℕ → Bool → Bool → Bool
by_kind k one two = (eqb k 1 && one) || (eqb k 2 && two)

pub kind-one : (k : ℕ) (one two : Bool) → k ≡ 1 → by_kind k one two ≡ one
kind-one k one two e = rw e (go one)
  where
    go : (b : Bool) → b || false ≡ b
    go true = refl
    go false = refl

pub kind-two : (k : ℕ) (one two : Bool) → k ≡ 2 → by_kind k one two ≡ two
kind-two k one two e = rw e

pub kind-other : (k : ℕ) (one two : Bool) → (k ≡ 1 → ⊥) → (k ≡ 2 → ⊥) → by_kind k one two ≡ false
kind-other k one two f g = rw (ne_eqb k 1 f, ne_eqb k 2 g)
