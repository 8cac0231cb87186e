use Rattle.std.proofs.Common.{rules}
use Rattle.word_laws.proofs.Chains.{all_below-from_all}
use Rattle.format.specs.Rule.{level_at, rule_at}
use Rattle.policy_check.specs.Parts.{good_level_of}
use Rattle.drafts.proofs.limits.levels_within.Goals as goal

pub returns : goal.returns
unfolding rule_at
returns c =
    let d = c.args.d.now in
    rw (← c.from-depth.ensures) (all_below-from_all (good_level_of c.from-depth.result (level_at d)) 4 _ _ _ c.all.ensures.ran (λ x b q k. search rules))
