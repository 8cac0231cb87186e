use borrow.Author.Tests.{lt-ltb, le-ltb}
use Rattle.policy_check.proofs.BlankLevel.{blank-level}
use Rattle.policy_check.proofs.rule.good_level_of.Goals as goal

pub returns-then-i-depth : goal.returns-then-i-depth
returns-then-i-depth c = rw (lt-ltb _ _ c.if-i-depth.true) c.good_level.ensures

pub returns-else-i-depth : goal.returns-else-i-depth
returns-else-i-depth c = rw (le-ltb _ _ c.if-i-depth.false, ← blank-level) c.zero_from.ensures
