-- The pieces of a span that a byte parts.
-- Assumes nothing.
use Prim.Native.Nat.{ℕ, suc, ◌+◌, ◌-◌, ◌≤◌, ◌<◌, min}
use native.Mathlib.Omega.{arith}
use mathlib.Core.Path.{◌≡◌, refl, ap, ◌∙◌}
use mathlib.Core.Bool.{Bool, true, false}
use mathlib.Core.List.{List, [], ◌∷◌, map}
use borrow.Author.Tests.{ltb-true, ltb-false}
use lib.Dec.{ltb}
use lib.ListN.{length, get_or, take, drop, get_or-map}
use Rattle.words.specs.Lists.{keep}
use Rattle.forms.specs.Form.{space, is_of}
use Rattle.xml.specs.Tags.{squeezed, parted}
use Rattle.tags.specs.Cut.{span, until}
use Rattle.tags.specs.Code.{NextPiece}
use Rattle.tags.specs.declared.span.Span.{Span}
use Rattle.tags.proofs.Spans.{span-length, span-front, span_rest}
use Rattle.tags.proofs.Pieces.{until-within, parted-first, parted-next, parted-more, parted-none, parted-squeezed}

-- a span that begins behind its end is as empty as one that begins there
span-clipped : (t : List ℕ) (n b : ℕ) → span t n b ≡ span t (min n b) b
span-clipped t n b = go (ltb n b) refl
  where
    go : (x : Bool) → ltb n b ≡ x → span t n b ≡ span t (min n b) b
    go true e = let m : min n b ≡ n = omega (arith, ltb-true n b e) in rw m
    go false e =
        let none : b - n ≡ 0 = omega (arith, ltb-false n b e) in
        let none' : b - min n b ≡ 0 = omega (arith, ltb-false n b e) in
        rw (none, none')

module _ (c : ℕ) (t : List ℕ) (b : ℕ) (k : b ≤ length t) where
  -- the first piece ends where c stands first
  pub piece-first : (a e : ℕ) → e ≡ a + until c (span t a b) → get_or (parted c (span t a b)) 0 [] ≡ span t a e
  piece-first a e end =
      parted-first c (span t a b) ∙ span-front t a b (until c (span t a b)) (rw (span-length t a b k) at (until-within c (span t a b))) ∙ rw end

  -- the others are the pieces from the next one on
  pub piece-next :
      (a e i : ℕ) (s : Span) → e ≡ a + until c (span t a b) → NextPiece c t e b s
      → get_or (parted c (span t a b)) (suc i) [] ≡ get_or (parted c (span t s.from b)) i []
  piece-next a e i s end next =
      let u = until c (span t a b) in
      let behind : a + suc u ≡ e + 1 = omega arith in
      parted-next c (span t a b) i
      ∙ rw (span_rest t a b (suc u), behind, next.begins) (ap (λ (l : List ℕ). get_or (parted c l) i []) (span-clipped t (e + 1) b))

-- squeezing a text squeezes its pieces, where they are parted by no white space
pub piece-squeezed : (c : ℕ) → is_of space c ≡ false → (l : List ℕ) (i : ℕ) → get_or (parted c (squeezed l)) i [] ≡ squeezed (get_or (parted c l) i [])
unfolding squeezed keep
piece-squeezed c kept l i = rw (parted-squeezed c kept l) (get_or-map squeezed (parted c l) i [])

-- ---- a span without its white space, piece by piece

module _ (c : ℕ) (t : List ℕ) (a b : ℕ) (k : b ≤ length t) (e : ℕ) (end : e ≡ a + until c (span t a b)) where
  -- a way to cut a text at each c cuts off what stands up to the first c, and then what is behind it
  pub cut-span :
      (f : List ℕ → List (List ℕ)) → ((l : List ℕ) → f (squeezed l) ≡ map squeezed (f l))
      → ((l : List ℕ) → until c l < length l → f l ≡ take (until c l) l ∷ f (drop (suc (until c l)) l))
      → e < b → f (squeezed (span t a b)) ≡ squeezed (span t a e) ∷ f (squeezed (span t (suc e) b))
  cut-span f thin more h =
      let u = until c (span t a b) in
      let next : a + suc u ≡ suc e = omega arith in
      thin (span t a b)
      ∙ ap (map squeezed) (more (span t a b) (rw (span-length t a b k) (omega arith)))
      ∙ rw (span-front t a b u (omega arith), ← end, span_rest t a b (suc u), next, thin (span t (suc e) b))

  -- up to the first c stands a piece, behind it the others; without a c it is one piece
  pub parted-span :
      is_of space c ≡ false → e < b → parted c (squeezed (span t a b)) ≡ squeezed (span t a e) ∷ parted c (squeezed (span t (suc e) b))
  parted-span kept = cut-span (parted c) (parted-squeezed c kept) (parted-more c)

  pub parted-span-none : is_of space c ≡ false → b ≤ e → parted c (squeezed (span t a b)) ≡ squeezed (span t a b) ∷ []
  parted-span-none kept h =
      parted-squeezed c kept (span t a b) ∙ rw (parted-none c (span t a b) (rw (span-length t a b k) (omega arith)))
