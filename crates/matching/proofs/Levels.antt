-- A rule's levels beside those of requests: the fields that the code reads, and two requests of one run place.
-- Assumes nothing.
use Prim.Native.Nat.{ℕ, ◌+◌, ◌*◌, ◌<◌}
use native.Mathlib.Omega.{arith}
use mathlib.Core.Path.{◌≡◌, refl, sym, ap, ◌∙◌}
use mathlib.Core.Bool.{Bool, true, false, cond, not, ◌&&◌, ◌||◌, and-true}
use mathlib.Core.List.{List}
use lib.Dec.{eqb, leb}
use borrow.Author.Tests.{ne_eqb}
use Rattle.words.specs.Lists.{all_below}
use Rattle.words.specs.Bytes.{u16_at, part}
use Rattle.word_laws.proofs.Parts.{u16_at-part}
use Rattle.word_laws.proofs.Tests.{all_below-same}
use Rattle.word_laws.proofs.Same.{same-tabs}
use Rattle.format.specs.Request.{Request, context_of, level_value}
use Rattle.format.specs.Rule.{Rule, Level, low, high}
use Rattle.format.specs.Fits.{value_fits, place_value, place, same_place}
use Rattle.matching.specs.Levels.{same_at}
use Rattle.request_check.proofs.RequestWords.{context-at}

-- ---- the levels of a request at a byte

module _ (s : List ℕ) (at i : ℕ) (four : i < 4) where
  pub value-at : level_value (context_of (part s at 28)) i ≡ u16_at s (at + 14 + 4 * i)
  value-at =
      rw (context-at s at)
      (u16_at-part s (at + 12) 16 (4 * i + 2) (omega arith) ∙ ap (u16_at s) (omega arith))

-- ---- what a mark asks of a value

pub fixed-value : (l : Level) (v : ℕ) → l.mark ≡ 1 → eqb v l.value ≡ value_fits l v
fixed-value l v e = rw e (sym (and-true _))

pub range-value : (l : Level) (v : ℕ) → l.mark ≡ 4 → leb (low l) v && leb v (high l) ≡ value_fits l v
range-value l v e = rw e

pub other-value : (l : Level) (v : ℕ) → (l.mark ≡ 1 → ⊥) → (l.mark ≡ 4 → ⊥) → true ≡ value_fits l v
other-value l v one four = rw (ne_eqb l.mark 1 one, ne_eqb l.mark 4 four)

-- ---- run places

same-value : (l : Level) (x y : ℕ) → eqb (place_value l x) (place_value l y) ≡ not (eqb l.mark 3) || eqb x y
unfolding place_value
same-value l x y = go (eqb l.mark 3)
  where
    go : (b : Bool) → eqb (cond b x 0) (cond b y 0) ≡ not b || eqb x y
    go true = refl
    go false = refl

pub same-place-levels : (r : Rule) (q p : Request) → same_place r q p ≡ all_below r.depth (same_at r q p)
unfolding same_place place
same-place-levels r q p =
    same-tabs (λ i. place_value (r.level i) (level_value (context_of q) i)) (λ i. place_value (r.level i) (level_value (context_of p) i)) r.depth
    ∙ all_below-same r.depth (λ i. eqb (place_value (r.level i) (level_value (context_of q) i)) (place_value (r.level i) (level_value (context_of p) i)))
    (same_at r q p) (λ i h. same-value (r.level i) (level_value (context_of q) i) (level_value (context_of p) i))
