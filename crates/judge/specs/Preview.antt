-- The fifth entry point, preview: "It returns what the decision would return on a copy of the table, and the lent table is unaltered."
-- Every number is the decision's: 34 too, where clearing would not make room, and removed and held as they would be afterwards.
-- Assumes nothing.
use Rattle.std.specs.Prelude.{ℕ, List}
use Rattle.format.specs.Answer.{Answer}
use Rattle.judge.specs.Decide.{decide}

-- the decision's answer; there is no table in it, for the table is lent to be read alone
unfoldable pub preview : List ℕ → List ℕ → List ℕ → Answer
preview policy table request = (decide policy table request).answer
