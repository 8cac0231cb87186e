use Rattle.format.specs.Rule.{good_rule, rule_at}
use Rattle.drafts.proofs.limits.rule_within.Goals as goal

pub returns : goal.returns
unfolding good_rule rule_at
returns c = cc
