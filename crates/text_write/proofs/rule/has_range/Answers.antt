use Rattle.std.proofs.Common.{rules}
use Rattle.format.specs.Rule.{is_range, level_at, rule_at}
use Rattle.text_write.specs.Lost.{has_range}
use Rattle.text_write.proofs.Ranges.{any_below-from_any}
use Rattle.text_write.proofs.rule.has_range.Goals as goal

pub returns : goal.returns
unfolding has_range rule_at
returns c = rw (← c.from.ensures) (any_below-from_any (λ i. is_range (level_at c.args.b.now i)) c.from.result _ _ _ c.any.ensures.ran (λ x b q k. search rules))
