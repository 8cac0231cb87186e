use Rattle.std.proofs.Common.{rules}
use Rattle.std.proofs.lemmas.Iterator.{YieldsList-from_slice}
use Rattle.std.proofs.lemmas.Iterator.Search.{any_from_yields_List}
use Rattle.tally.specs.declared.counting.Counted.{Counted}
use Rattle.tally.specs.Code.{member_at, repeated}
use borrow.Author.Tests.{tests}
use lib.Dec.{eqb}
use lib.ListN.{take}
use Rattle.tally.proofs.counting.repeats.Goals as goal

pub returns : goal.returns
unfolding repeated
returns c =
    let a = c.args in
    any_from_yields_List (λ (m : Counted). eqb m.privilege.0 (member_at a.members.now a.k)) _ _ _ c.any.ensures.ran
    (YieldsList-from_slice (take a.k a.members.now) c.iter.ensures.rest) (λ x b q k. search (rules, tests))
