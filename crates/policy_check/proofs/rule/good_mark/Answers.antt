use Rattle.format.specs.Rule.{good_mark}
use borrow.Author.Rules.{rules}
use Rattle.policy_check.proofs.rule.good_mark.Goals as goal

pub returns : goal.returns
unfolding good_mark
returns c = search rules
