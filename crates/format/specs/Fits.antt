-- Which contexts a rule is about, and which of them belong together.
-- Assumes nothing.
use Rattle.std.specs.Prelude.{ℕ, Bool, cond, not, ◌&&◌, ◌||◌, List, eqb, leb}
use Rattle.words.specs.Lists.{all_below, tab, same_list}
use Rattle.format.specs.Request.{Request, context_of, depth_of, level_type, level_value}
use Rattle.format.specs.Rule.{Rule, Level, is_range, low, high}

-- what a level's mark asks of a value: "for mark 1 the same value"; W4, for mark 4: "from low to high, both included"
abbrev pub value_fits : Level → ℕ → Bool
value_fits l value = (not (eqb l.mark 1) || eqb value l.value) && (not (is_range l) || (leb (low l) value && leb value (high l)))

-- what a level asks of a context's level: "the same type", and what its mark asks
unfoldable pub level_fits : Level → ℕ → ℕ → Bool
level_fits l type value = eqb type l.type && value_fits l value

-- what a rule asks of a request's context at level i
abbrev pub fits_at : Rule → Request → ℕ → Bool
fits_at r q i = level_fits (r.level i) (level_type (context_of q) i) (level_value (context_of q) i)

-- "A context fits a rule if it has at least the rule's depth and, at each rule level, the same type, and for mark 1 the same value."
unfoldable pub fits : Rule → Request → Bool
fits r q = leb r.depth (depth_of (context_of q)) && all_below r.depth (fits_at r q)

-- what a level takes of a context's value into the run place: the value at mark 3, and nothing, written 0, at any other mark. So, of mark 4 (W4):
-- "All values in the range share a run place."
unfoldable pub place_value : Level → ℕ → ℕ
place_value l value = cond (eqb l.mark 3) value 0

-- the run place of a request under a rule that it fits: the values at the marks 3
unfoldable pub place : Rule → Request → List ℕ
place r q = tab (λ i. place_value (r.level i) (level_value (context_of q) i)) 0 r.depth

-- "Two fitting contexts share a run place if they agree in value at each mark 3."
unfoldable pub same_place : Rule → Request → Request → Bool
same_place r q p = same_list (place r q) (place r p)
