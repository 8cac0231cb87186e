use Rattle.std.proofs.Common.{rules}
use Rattle.word_laws.proofs.Chains.{all_below-from_all}
use Rattle.format.specs.Rule.{exclusion_at, good_roles}
use Rattle.exclusion_check.specs.Parts.{good_role}
use Rattle.exclusion_check.proofs.exclusion.good_roles.Goals as goal

pub returns : goal.returns
unfolding good_roles
returns c = let a = c.args in rw (← c.requires.1.1) (all_below-from_all (good_role (exclusion_at a.b.now a.e)) a.n _ _ _ c.all.ensures.ran (λ x b q k. search rules))
