use Rattle.std.proofs.Common.{arith, length-set, ◌∙◌}
use Rattle.format.specs.Policy.{policy_of}
use Rattle.format_laws.proofs.AcceptedPolicy.{rules-most, rule-good}
use Rattle.rule_tests.proofs.Made.{bounds_more}
use Rattle.rule_tests.proofs.bounds.bounds_of.Goals as goal

pub of-requires : goal.of-requires
of-requires c = let p = c.args.policy.now in rw c.rule.ensures (rule-good p.image.now p.accepted c.loop-i.i (omega (arith, p.rules_are)))

pub bounds-out-i : goal.bounds-out-i
bounds-out-i c = let p = c.args.policy.now in omega (arith, p.rules_are, rules-most p.image.now p.accepted)

pub loop-i-preserved : goal.loop-i-preserved
unfolding policy_of
loop-i-preserved c =
    let p = c.args.policy.now in
    let l = c.loop-i in (
      length-set l.out l.i _ ∙ l.invariant.0,
      bounds_more (policy_of p.image.now) l.out l.i _ l.invariant.1 (omega (arith, l.invariant.0, p.rules_are, rules-most p.image.now p.accepted))
          (rw c.rule.ensures at c.of.ensures.bound) (rw c.rule.ensures at c.of.ensures.narrow),
    )
