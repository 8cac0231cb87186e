-- Which of the rows a tag's beginning is.
-- Assumes nothing.
use Rattle.std.specs.Prelude.{ℕ, suc, cond, get_or}
use mathlib.Core.List.{List, [], ◌∷◌, map}
use Rattle.words.specs.Lists.{same_list}
use Rattle.forms.specs.Form.{ascii}
use Rattle.xml.specs.Tags.{Tag, Row, rows, other}

-- the place of the first list that is p; their number, if none is
unfoldable pub place_of : List ℕ → List (List ℕ) → ℕ
place_of p [] = 0
place_of p (x ∷ xs) = cond (same_list p x) 0 (suc (place_of p xs))

-- what the rows begin with, and what one does
abbrev pub beginning_of : Row → List ℕ
beginning_of r = ascii r.begins

unfoldable pub beginnings : List (List ℕ)
beginnings = map beginning_of (rows [] [])

abbrev pub beginning : ℕ → List ℕ
beginning k = get_or beginnings k []

-- the row that begins so; 16 if none does
abbrev pub row_of : List ℕ → ℕ
row_of p = place_of p beginnings

-- what a tag of row k says with its two values
unfoldable pub said_by : ℕ → List ℕ → List ℕ → Tag
said_by k one two = get_or (map (λ r. r.says) (rows one two)) k other
