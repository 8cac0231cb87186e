-- Reading digits with 255 as the most.
-- Assumes nothing.
use Prim.Native.Nat.{ℕ, suc, ◌+◌, ◌-◌, ◌*◌, ◌≤◌, ◌<◌, min}
use native.Mathlib.Decide.{dec_lt}
use native.Mathlib.Omega.{arith}
use native.Mathlib.Numerals.{add-one}
use mathlib.Core.Path.{◌≡◌, refl, ◌∙◌}
use mathlib.Core.Bool.{Bool, true, false, cond}
use mathlib.Core.List.{List, [], ◌∷◌}
use lib.ListN.{length, get_or}
use Rattle.std.specs.List.{fold}
use Rattle.words.specs.Lists.{keep}
use Rattle.forms.specs.Form.{space, is_of}
use Rattle.xml.specs.Tags.{squeezed}
use Rattle.xml.specs.Read.{decimal_from}
use Rattle.tags.specs.Cut.{span}
use Rattle.tags.proofs.Spans.{span-cons, span_none}
use Rattle.tags.proofs.Pieces.{squeezed-white, squeezed-kept}

-- digits make a number no smaller
decimal-grows : (n : ℕ) (t : List ℕ) → n ≤ decimal_from n t
unfolding decimal_from
decimal-grows n [] = omega arith
decimal-grows n (b ∷ t) = omega (arith, decimal-grows (10 * n + (b - 48)) t)

-- 255 may stand for a larger number before the digits behind it are read
pub capped-from : (n : ℕ) (t : List ℕ) → min 255 (decimal_from (min 255 n) t) ≡ min 255 (decimal_from n t)
capped-from n t = go (dec_lt 255 n)
  where
    go : Dec (255 < n) → min 255 (decimal_from (min 255 n) t) ≡ min 255 (decimal_from n t)
    go (yes l) = omega (arith, decimal-grows n t, decimal-grows (min 255 n) t)
    go (no g) = let e : min 255 n ≡ n = omega arith in rw e

-- so each digit may be read with a cap
digit-front : (n b : ℕ) (l : List ℕ) → min 255 (decimal_from (min 255 (10 * n + (b - 48))) l) ≡ min 255 (decimal_from n (b ∷ l))
unfolding decimal_from
digit-front n b l = capped-from (10 * n + (b - 48)) l

-- the number of the code after a byte more
abbrev pub with_digit : ℕ → ℕ → ℕ
with_digit n b = cond (is_of space b) n (min 255 (10 * n + (b - 48)))

-- byte by byte it is the number of the digits, 255 if that is more
pub digits-folded : (n : ℕ) (t : List ℕ) → n ≤ 255 → fold with_digit n t ≡ min 255 (decimal_from n (squeezed t))
unfolding squeezed keep decimal_from
digits-folded n [] h = omega arith
digits-folded n (b ∷ t) h = digits-folded (with_digit n b) t (few (is_of space b)) ∙ go (is_of space b) refl
  where
    few : (w : Bool) → cond w n (min 255 (10 * n + (b - 48))) ≤ 255
    few true = h
    few false = omega arith

    go :
        (w : Bool) → is_of space b ≡ w
        → min 255 (decimal_from (cond w n (min 255 (10 * n + (b - 48)))) (squeezed t)) ≡ min 255 (decimal_from n (squeezed (b ∷ t)))
    go true e = rw (squeezed-white b t e)
    go false e = rw (squeezed-kept b t e) (digit-front n b (squeezed t))

-- the turn of the loop at a byte, white space or not
pub digit-more :
    (t : List ℕ) (i to n : ℕ) → i < to → to ≤ length t
    → min 255 (decimal_from (cond (is_of space (get_or t i 0)) n (min 255 (10 * n + (get_or t i 0 - 48)))) (squeezed (span t (i + 1) to)))
    ≡ min 255 (decimal_from n (squeezed (span t i to)))
digit-more t i to n h k = rw (add-one i, span-cons t i to h k) (go (is_of space (get_or t i 0)) refl)
  where
    go :
        (w : Bool) → is_of space (get_or t i 0) ≡ w
        → min 255 (decimal_from (cond w n (min 255 (10 * n + (get_or t i 0 - 48)))) (squeezed (span t (suc i) to)))
        ≡ min 255 (decimal_from n (squeezed (get_or t i 0 ∷ span t (suc i) to)))
    go true e = rw (squeezed-white (get_or t i 0) (span t (suc i) to) e)
    go false e = rw (squeezed-kept (get_or t i 0) (span t (suc i) to) e) (digit-front n (get_or t i 0) (squeezed (span t (suc i) to)))

-- where nothing is left, the number is there
pub digit-none : (t : List ℕ) (i n : ℕ) → n ≤ 255 → min 255 (decimal_from n (squeezed (span t i i))) ≡ n
unfolding squeezed keep decimal_from
digit-none t i n h = rw (span_none t i) (omega arith)
