-- What the code has of a context's levels.
-- Assumes nothing.
use Rattle.std.specs.Prelude.{ℕ, Bool, cond, not, true, ◌&&◌, ◌||◌, List, [], ◌∷◌, eqb}
use Rattle.xml.specs.Read.{is_every, is_each, level_of}

-- "A value of * is mark 2, ! is mark 3, a name mark 1."
abbrev pub mark_of : List ℕ → ℕ
mark_of v = cond (is_every v) 2 (cond (is_each v) 3 1)

-- both names of a level are listed: no number is 0 that has to be one
unfoldable pub level_listed : List ℕ → List (List ℕ) → Bool
level_listed l p = not (eqb (level_of l p).type 0) && (not (eqb (level_of l p).mark 1) || not (eqb (level_of l p).value 0))

-- those of all levels are
unfoldable pub levels_listed : List ℕ → List (List (List ℕ)) → Bool
levels_listed l [] = true
levels_listed l (p ∷ ps) = level_listed l p && levels_listed l ps
