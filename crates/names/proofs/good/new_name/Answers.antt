use Rattle.std.proofs.Common.{rules}
use Rattle.word_laws.proofs.Chains.{all_below-from_all}
use Rattle.xml.specs.Names.{name_in, apart}
use Rattle.names.proofs.good.new_name.Goals as goal

pub returns : goal.returns
returns c =
    let a = c.args in
    all_below-from_all (λ j. apart (name_in a.list.now j) (name_in a.list.now a.i)) a.i _ _ _ c.all.ensures.ran (λ x b q k. search rules)
