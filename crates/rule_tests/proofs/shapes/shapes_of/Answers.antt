use Rattle.std.proofs.Common.{arith, length-set, ◌∙◌}
use Rattle.format.specs.Policy.{policy_of}
use Rattle.format_laws.proofs.AcceptedPolicy.{rules-most}
use Rattle.rule_tests.proofs.Made.{shapes_more}
use Rattle.rule_tests.proofs.shapes.shapes_of.Goals as goal

pub bounds-out-i : goal.bounds-out-i
bounds-out-i c = let p = c.args.policy.now in omega (arith, p.rules_are, rules-most p.image.now p.accepted)

pub loop-i-preserved : goal.loop-i-preserved
unfolding policy_of
loop-i-preserved c =
    let p = c.args.policy.now in
    let l = c.loop-i in (
      length-set l.out l.i _ ∙ l.invariant.0,
      shapes_more (policy_of p.image.now) l.out l.i _ l.invariant.1 (omega (arith, l.invariant.0, p.rules_are, rules-most p.image.now p.accepted))
          (rw c.rule.ensures at c.of.ensures.shape) (rw c.rule.ensures at c.of.ensures.narrow),
    )
