use Prim.Native.Nat.{◌+◌}
use mathlib.Core.Path.{◌≡◌, sym, ◌∙◌}
use Rattle.std.proofs.Common.{rules}
use Rattle.std.proofs.lemmas.Iterator.{serves_from_Range}
use Rattle.words.specs.Lists.{all_below}
use Rattle.word_laws.proofs.Chains.{all_below-from_all}
use Rattle.xml.specs.Names.{good_name}
use Rattle.names.specs.Parts.{new_name}
use Rattle.names.proofs.GoodLists.{lengths-after}
use Rattle.names.proofs.good.good_part.Goals.{After-all}
use Rattle.names.proofs.good.good_part.Goals as goal

-- the first round looks at each entry by itself
each : (c : After-all) → c.all.result ≡ all_below c.args.n (λ k. good_name c.args.list.now (c.args.from + k))
each c = all_below-from_all (λ k. good_name c.args.list.now (c.args.from + k)) c.args.n _ _ _ c.all.ensures.ran (λ x b q k. search rules)

pub all-requires-then-all-clause-callable : goal.all-requires-then-all-clause-callable
all-requires-then-all-clause-callable c =
    let a = c.args in
    let e = sym (each (goal.at.all-requires-then-all-clause-callable c).After-all) ∙ c.if-all.true in
    serves_from_Range (λ x q k. search rules) (λ x lo hi. let few = lengths-after a.list.now a.from a.n c.requires.1 e x hi in search rules)

pub returns-then-all : goal.returns-then-all
returns-then-all c =
    let a = c.args in
    let e = sym (each (goal.at.returns-then-all c).After-all) ∙ c.if-all.true in
    all_below-from_all (λ k. new_name a.list.now (a.from + k)) a.n _ _ _ c.all-then-all.ensures.ran (λ x b q k. search rules)
    ∙ rw e

pub returns-else-all : goal.returns-else-all
returns-else-all c =
    let e = sym (each (goal.at.returns-else-all c).After-all) ∙ c.if-all.false in
    c.if-all.false ∙ rw e
