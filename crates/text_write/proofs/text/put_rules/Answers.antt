use native.Mathlib.Omega.{arith}
use mathlib.Core.Path.{sym, ◌∙◌}
use Rattle.std.proofs.lemmas.Result.{err_from_is_err_and}
use Rattle.format.specs.Block.{block}
use Rattle.format_laws.proofs.AcceptedPolicy.{rules-most}
use Rattle.text_write.specs.Pieces.{Writable}
use Rattle.text_write.proofs.Accepted.{writable}
use Rattle.text_write.proofs.Laying.{all-listed, one-missing}
use Rattle.text_write.proofs.Turns.{turn-start, turn-missing, turn-range, turn_more, turn-done}
use Rattle.text_write.proofs.text.put_rules.Goals.{In-loop-k}
use Rattle.text_write.proofs.text.put_rules.Goals as goal

-- the rule's block can be written
good : (c : In-loop-k) → Writable (block c.args.policy.now.image.now c.loop-k.k)
good c =
    let p = c.args.policy.now in
    writable p.image.now p.accepted c.loop-k.k (omega (arith, p.rules_are))

pub loop-k-init : goal.loop-k-init
loop-k-init c = let p = c.args.policy.now in turn-start c.args.names.now.list.now p.image.now c.args.output.now c.args.start p.rules p.rules_are

pub put_rule-rule-requires : goal.put_rule-rule-requires
put_rule-rule-requires c =
    let p = c.args.policy.now in
    let x = c.loop-k.invariant.row.1 in
    let few = rules-most p.image.now p.accepted in
    record {
      at_bound = omega (arith, x.behind, x.few, few, p.rules_are);
      writable = rw c.rule-b.ensures (good (goal.at.put_rule-rule-requires c).In-loop-k);
    }

pub returns-in_err-rule : goal.returns-in_err-rule
returns-in_err-rule c =
    let p = err_from_is_err_and c.from_residual.result c.from_residual.ensures.1 in
    let x = rw c.rule-b.ensures at c.put_rule-rule.ensures in
    let lost = one-missing _ (sym x.named ∙ c.in_err-rule.was) in
    rw (p.1, p.2, lost.1) (turn-missing c.args.names.now.list.now c.args.policy.now.image.now c.args.output.now c.args.start c.args.policy.now.rules c.loop-k.k c.loop-k.invariant (omega arith) lost.0)

pub has_range-requires : goal.has_range-requires
has_range-requires c = let w = good (goal.at.has_range-requires c).In-loop-k in rw c.rule-b.ensures w.depth

pub returns-then-has_range : goal.returns-then-has_range
returns-then-has_range c =
    let e = c.rule-b.ensures in
    let x = rw e at c.put_rule-rule.ensures in
    turn-range _ _ _ _ _ c.loop-k.k c.loop-k.invariant (omega arith) (all-listed _ (sym x.named ∙ c.in_ok-rule.was), x.lays)
    (sym (rw e at c.has_range.ensures) ∙ c.if-has_range.true)

pub loop-k-preserved : goal.loop-k-preserved
loop-k-preserved c =
    let e = c.rule-b.ensures in
    let x = rw e at c.put_rule-rule.ensures in
    turn_more _ _ _ _ _ c.loop-k.k c.loop-k.invariant (omega arith) (all-listed _ (sym x.named ∙ c.in_ok-rule.was), x.lays)
    (sym (rw e at c.has_range.ensures) ∙ c.if-has_range.false) c.put_rule-rule.auto.output

pub returns : goal.returns
returns c =
    let p = c.args.policy.now in
    turn-done _ _ _ _ _ c.loop-k.k c.loop-k.invariant (omega arith) p.rules_are (omega (arith, rules-most p.image.now p.accepted, p.rules_are))
