-- A rule beside requests, level by level, as the code goes through them.
-- Assumes nothing.
use Rattle.std.specs.Prelude.{ℕ, Bool, not, ◌||◌, eqb}
use Rattle.words.specs.Lists.{all_below}
use Rattle.format.specs.Request.{Request, context_of, level_value}
use Rattle.format.specs.Rule.{Rule}
use Rattle.format.specs.Fits.{fits_at}

-- the request has at its first n levels what the rule asks there
abbrev pub fits_below : Rule → Request → ℕ → Bool
fits_below r q n = all_below n (fits_at r q)

-- two requests agree at level i, if the run place takes it in
abbrev pub same_at : Rule → Request → Request → ℕ → Bool
same_at r q p i = not (eqb (r.level i).mark 3) || eqb (level_value (context_of q) i) (level_value (context_of p) i)
