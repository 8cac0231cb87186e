-- Spans of a text: byte by byte from either end, and a span's front and rest.
-- Assumes nothing.
use Prim.Native.Nat.{ℕ, zero, suc, ◌+◌, ◌-◌, ◌≤◌, ◌<◌}
use native.Mathlib.Omega.{arith}
use native.Mathlib.Numerals.{add-one}
use mathlib.Core.Path.{◌≡◌, ◌∙◌}
use mathlib.Core.List.{List, [], ◌∷◌, ◌++◌}
use borrow.Author.Tests.{eq-eqb, ne_eqb}
use lib.ListN.{length, get_or, take, drop, length-take, length-drop}
use lib.Seq.{drop-cons, take-suc, take-take, get_or-drop, drop-drop, take-nil}
use Rattle.tags.specs.Cut.{span, until}

-- a span up to its own beginning is empty
pub span_none : (t : List ℕ) (a : ℕ) → span t a a ≡ []
span_none t a = let z : a - a ≡ 0 = omega arith in rw z

-- a span is its first byte and the rest
pub span-cons : (t : List ℕ) (a b : ℕ) → a < b → b ≤ length t → span t a b ≡ get_or t a 0 ∷ span t (suc a) b
span-cons t a b h k = let e : b - a ≡ suc (b - suc a) = omega arith in rw (e, drop-cons t a 0 (omega arith))

-- a span that ends one byte later
pub span_more : (t : List ℕ) (a b : ℕ) → a ≤ b → b < length t → span t a (suc b) ≡ span t a b ++ get_or t b 0 ∷ []
span_more t a b h k =
    let e : suc b - a ≡ suc (b - a) = omega arith in
    let at : a + (b - a) ≡ b = omega arith in
    let l : b - a < length (drop a t) = rw (length-drop a t) (omega arith) in
    rw (e, take-suc (drop a t) (b - a) 0 l, get_or-drop a t (b - a) 0, at)

-- how long a span is
pub span-length : (t : List ℕ) (a b : ℕ) → b ≤ length t → length (span t a b) ≡ b - a
span-length t a b h = simp (length-take, length-drop) (omega arith)

-- the front of a span
pub span-front : (t : List ℕ) (a b n : ℕ) → n ≤ b - a → take n (span t a b) ≡ span t a (a + n)
span-front t a b n h = let e : a + n - a ≡ n = omega arith in rw (e, take-take n (b - a) (drop a t) h)

-- the rest of a list's front is the front of its rest
drop-front : (n m : ℕ) (l : List ℕ) → drop n (take m l) ≡ take (m - n) (drop n l)
drop-front zero m l = let e : m - 0 ≡ m = omega arith in rw e
drop-front (suc n) zero l = let e : 0 - suc n ≡ 0 = omega arith in rw e
drop-front (suc n) (suc m) [] = rw (take-nil {A = ℕ} (suc m - suc n))
drop-front (suc n) (suc m) (x ∷ l) = let e : suc m - suc n ≡ m - n = omega arith in rw e (drop-front n m l)

-- what stands behind its front
pub span_rest : (t : List ℕ) (a b n : ℕ) → drop n (span t a b) ≡ span t (a + n) b
span_rest t a b n =
    let e : b - a - n ≡ b - (a + n) = omega arith in
    drop-front n (b - a) (drop a t) ∙ rw (e, drop-drop n a t)

-- ---- where a byte stands first in a span

module _ (c : ℕ) (t : List ℕ) (a b : ℕ) (h : a < b) (k : b ≤ length t) where
  -- it is the span's first byte
  pub until-here : get_or t a 0 ≡ c → until c (span t a b) ≡ 0
  unfolding until
  until-here e = rw (span-cons t a b h k, eq-eqb (get_or t a 0) c e)

  -- it is not, and is looked for behind that
  pub until-later : (get_or t a 0 ≡ c → ⊥) → until c (span t a b) ≡ suc (until c (span t (a + 1) b))
  unfolding until
  until-later e = rw (add-one a, span-cons t a b h k, ne_eqb (get_or t a 0) c e)

-- an empty span has none
pub until_none : (c : ℕ) (t : List ℕ) (a : ℕ) → until c (span t a a) ≡ 0
unfolding until
until_none c t a = rw (span_none t a)
