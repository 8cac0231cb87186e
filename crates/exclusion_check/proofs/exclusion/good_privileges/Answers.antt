use Rattle.std.proofs.Common.{rules}
use Rattle.word_laws.proofs.Chains.{all_below-from_all}
use Rattle.format.specs.Rule.{exclusion_at, full_privilege, good_privileges}
use Rattle.exclusion_check.proofs.exclusion.good_privileges.Goals as goal

pub returns : goal.returns
unfolding good_privileges
returns c = let a = c.args in rw (← c.requires.1.1) (all_below-from_all (λ i. full_privilege ((exclusion_at a.b.now a.e).member i)) a.n _ _ _ c.all.ensures.ran (λ x b q k. search rules))
