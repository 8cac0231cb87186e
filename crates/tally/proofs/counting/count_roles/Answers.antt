use Rattle.std.proofs.Common.{rules, tests, ◌∙◌, refl, ℕ}
use Rattle.std.proofs.lemmas.Iterator.{YieldsList-from_range}
use Rattle.std.proofs.lemmas.Iterator.Consumers.{YieldsList-at, YieldsList-from_filter, count_from_yields_List}
use native.Mathlib.Nat.{sub-zero}
use Rattle.tally.proofs.Lists.{filter-range}
use Rattle.tally.specs.Code.{has_member, roles_among}
use Rattle.tally.proofs.counting.count_roles.Goals as goal

pub returns : goal.returns
unfolding roles_among
returns c =
    let a = c.args in
    let t = λ (k : ℕ). has_member a.b.now a.e k a.roles.0 in
    count_from_yields_List c.filter.result _ c.count.ensures.ran
    (YieldsList-from_filter _ t (YieldsList-at c.filter.ensures.source (YieldsList-from_range 0 a.n a.n refl (sub-zero a.n))) c.filter.ensures.closure (λ x b q k. search (rules, tests)))
    ∙ filter-range t a.n
