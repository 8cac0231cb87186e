use mathlib.Core.Path.{ap₂}
use mathlib.Core.Bool.{◌&&◌}
use borrow.Author.Tests.{lt-leb, le-leb}
use Rattle.format.specs.Policy.{good_permission_bytes}
use Rattle.policy_check.proofs.permission.good_permission_bytes.Goals as goal

pub returns-then-n-gt-MOST_ENTRIES : goal.returns-then-n-gt-MOST_ENTRIES
unfolding good_permission_bytes
returns-then-n-gt-MOST_ENTRIES c = rw (← c.u16_at-n.ensures.0, lt-leb _ _ c.if-n-gt-MOST_ENTRIES.true)

pub returns : goal.returns
unfolding good_permission_bytes
returns c = rw (← c.u16_at-n.ensures.0, le-leb _ _ c.if-n-gt-MOST_ENTRIES.false) (ap₂ ◌&&◌ c.zero_from.ensures c.zero_from-2.ensures)
