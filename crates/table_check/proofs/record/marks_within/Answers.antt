use Rattle.table_check.proofs.Within.{within-is}
use lib.Count.{leading_le}
use native.Mathlib.Omega.{arith}
use Rattle.table_check.proofs.record.marks_within.Goals as goal

pub overflow_sub-result : goal.overflow_sub-result
overflow_sub-result c = let a = c.args in omega (arith, leading_le 32 a.marks.0)

pub returns : goal.returns
returns c = let a = c.args in within-is a.rules a.marks.0 (omega arith)
