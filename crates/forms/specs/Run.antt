-- How far a text goes in one manner: bytes of one kind, or the bytes of another text.
-- Assumes nothing.
use Rattle.std.specs.Prelude.{ℕ, suc, cond, List, [], ◌∷◌, eqb}
use Rattle.forms.specs.Form.{Kind, is_of}

-- how many bytes of the kind a text begins with
unfoldable pub run : Kind → List ℕ → ℕ
run q [] = 0
run q (b ∷ t) = cond (is_of q b) (suc (run q t)) 0

-- how many bytes two texts have in common at their beginning
unfoldable pub common : List ℕ → List ℕ → ℕ
common [] t = 0
common (c ∷ w) [] = 0
common (c ∷ w) (b ∷ t) = cond (eqb b c) (suc (common w t)) 0
