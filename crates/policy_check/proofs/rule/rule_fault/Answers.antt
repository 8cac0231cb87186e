use mathlib.Core.Path.{sym, ◌∙◌}
use Rattle.word_laws.proofs.First.{test-passes, test-fails}
use Rattle.format.specs.Rule.{rule_fault}
use Rattle.policy_check.proofs.rule.rule_fault.Goals as goal

pub returns-then-not-good_rule_bytes : goal.returns-then-not-good_rule_bytes
unfolding rule_fault
returns-then-not-good_rule_bytes c = sym (test-fails _ _ (sym c.good_rule_bytes.ensures ∙ c.if-not-good_rule_bytes.true))

pub returns : goal.returns
unfolding rule_fault
returns c = c.exclusions_fault.ensures ∙ sym (test-passes _ _ (sym c.good_rule_bytes.ensures ∙ c.if-not-good_rule_bytes.false))
