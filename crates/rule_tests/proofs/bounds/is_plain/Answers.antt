use Rattle.std.proofs.Common.{rules, not}
use Rattle.word_laws.proofs.Chains.{all_below-from_all}
use Rattle.format.specs.Rule.{is_range, rule_at}
use Rattle.rule_tests.specs.Shapes.{plain}
use Rattle.rule_tests.proofs.bounds.is_plain.Goals as goal

pub returns : goal.returns
unfolding plain rule_at
returns c = all_below-from_all (λ l. not (is_range ((rule_at c.args.b.now).level l))) 4 _ _ _ c.all.ensures.ran (λ x b q k. search rules)
