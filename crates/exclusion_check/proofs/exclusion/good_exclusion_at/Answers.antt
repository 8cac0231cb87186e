use borrow.Author.Tests.{lt-ltb, le-ltb}
use Rattle.format.specs.Rule.{rule_at, good_exclusion_at}
use Rattle.exclusion_check.proofs.BlankParts.{blank-exclusion}
use Rattle.exclusion_check.proofs.exclusion.good_exclusion_at.Goals as goal

pub returns-then-e-from : goal.returns-then-e-from
unfolding rule_at good_exclusion_at
returns-then-e-from c = rw (← c.from.ensures, lt-ltb _ _ c.if-e-from.true) c.good_exclusion.ensures

pub returns-else-e-from : goal.returns-else-e-from
unfolding rule_at good_exclusion_at
returns-else-e-from c = rw (← c.from.ensures, le-ltb _ _ c.if-e-from.false, ← blank-exclusion) c.zero_from.ensures
