use Rattle.std.proofs.Common.{rules}
use Rattle.word_laws.proofs.Chains.{all_below-from_all}
use Rattle.format.specs.Policy.{policy_of}
use Rattle.rule_tests.specs.Shapes.{plain}
use Rattle.rule_tests.proofs.bounds.are_plain.Goals as goal

pub returns : goal.returns
unfolding policy_of
returns c =
    let policy = c.args.policy.now in
    all_below-from_all (λ i. plain ((policy_of policy.image.now).rule i)) policy.rules _ _ _ c.all.ensures.ran (λ x b q k. search rules)
