use native.Mathlib.Omega.{arith}
use Rattle.request_check.proofs.context.used_count.Goals as goal

pub returns-then-used : goal.returns-then-used
returns-then-used c = (rw (← c.used.ensures, c.if-used.true), omega arith)

pub returns-else-used : goal.returns-else-used
returns-else-used c = (rw (← c.used.ensures, c.if-used.false), omega arith)
