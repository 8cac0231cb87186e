use native.Mathlib.Omega.{arith}
use Rattle.reader.specs.Table.{table}
use Rattle.reader.proofs.Cells.{flat, cell}
use Rattle.reader.proofs.table.next_state.Goals as goal

pub overflow_sub-digit : goal.overflow_sub-digit
unfolding flat table
overflow_sub-digit c = let e = cell _ _ c.requires.0 c.requires.1 in omega arith

pub returns : goal.returns
unfolding flat table
returns c = let e = cell _ _ c.requires.0 c.requires.1 in omega arith
