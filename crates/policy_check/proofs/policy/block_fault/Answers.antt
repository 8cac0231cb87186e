use mathlib.Core.Path.{◌≡◌, sym, ◌∙◌}
use mathlib.Core.Bool.{true}
use Rattle.policy_check.specs.Parts.{good_header}
use Rattle.format.specs.Block.{good_check}
use Rattle.policy_check.proofs.PolicyBlock.{bad-check, bad-header, rule-block, permission-block}
use Rattle.policy_check.proofs.policy.block_fault.Goals.{After-u32_at, Else-not-good_check, Else-not-good_header}
use Rattle.policy_check.proofs.policy.block_fault.Goals as goal

checked : (c : Else-not-good_check) → good_check c.args.b.now ≡ true
checked c = sym c.good_check.ensures ∙ c.if-not-good_check.false

headed : (c : Else-not-good_header) → let a = c.args in good_header a.k a.total a.seen a.b.now ≡ true
headed c = sym c.good_header.ensures ∙ c.if-not-good_header.false

pub returns-then-not-good_check : goal.returns-then-not-good_check
returns-then-not-good_check c = bad-check _ _ _ _ (sym c.good_check.ensures ∙ c.if-not-good_check.true)

pub returns-then-not-good_header : goal.returns-then-not-good_header
returns-then-not-good_header c = bad-header _ _ _ _ (checked (goal.at.returns-then-not-good_header c).Else-not-good_check) (sym c.good_header.ensures ∙ c.if-not-good_header.true)

pub returns-then-u32_at-eq-RULE_KIND : goal.returns-then-u32_at-eq-RULE_KIND
returns-then-u32_at-eq-RULE_KIND c =
    let read = (goal.at.returns-then-u32_at-eq-RULE_KIND c).After-u32_at in
    let two = (goal.at.returns-then-u32_at-eq-RULE_KIND c).Else-not-good_header in
    c.rule_fault.ensures ∙ rule-block _ _ _ _ (checked (goal.at.returns-then-u32_at-eq-RULE_KIND c).Else-not-good_check) (headed two) (sym read.u32_at.ensures ∙ c.if-u32_at-eq-RULE_KIND.true)

pub returns-else-u32_at-eq-RULE_KIND : goal.returns-else-u32_at-eq-RULE_KIND
returns-else-u32_at-eq-RULE_KIND c =
    let read = (goal.at.returns-else-u32_at-eq-RULE_KIND c).After-u32_at in
    let two = (goal.at.returns-else-u32_at-eq-RULE_KIND c).Else-not-good_header in
    c.permission_fault.ensures ∙ permission-block _ _ _ _ (checked (goal.at.returns-else-u32_at-eq-RULE_KIND c).Else-not-good_check) (headed two) (λ e. c.if-u32_at-eq-RULE_KIND.false (read.u32_at.ensures ∙ e))
