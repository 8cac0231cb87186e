-- W3, of a decision and of a closing: "how many blocks it wrote, proved to be the number whose records differ". It is no part of the answer.
-- Assumes nothing.
use Rattle.std.specs.Prelude.{ℕ, List}
use Rattle.format.specs.Block.{blocks}
use Rattle.format.specs.Table.{records_of}
use Rattle.format.specs.Altered.{altered_blocks}
use Rattle.judge.specs.Decide.{decide}
use Rattle.judge.specs.Close.{close}

-- how many blocks of the lent table have other records after the decision than before; none, if it is refused
unfoldable pub decided_blocks : List ℕ → List ℕ → List ℕ → ℕ
decided_blocks policy table request = altered_blocks (blocks table) (records_of table) (records_of (decide policy table request).state)

-- the same after the closing
unfoldable pub closed_blocks : List ℕ → List ℕ → List ℕ → ℕ
closed_blocks policy table context = altered_blocks (blocks table) (records_of table) (records_of (close policy table context).state)
