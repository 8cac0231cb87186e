use Rattle.std.proofs.Common.{rules}
use mathlib.Core.Bool.{not}
use lib.Dec.{eqb}
use Rattle.word_laws.proofs.Chains.{all_below-from_all}
use Rattle.format.specs.Rule.{exclusion_at}
use Rattle.exclusion_check.proofs.exclusion.new_role.Goals as goal

pub returns : goal.returns
returns c =
    let a = c.args in
    let x = exclusion_at a.b.now a.e in
    all_below-from_all (λ j. not (eqb (x.member j).operation (x.member a.i).operation)) a.i _ _ _ c.all.ensures.ran (λ x b q k. search rules)
