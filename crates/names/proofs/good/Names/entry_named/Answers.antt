use mathlib.Core.Path.{◌≡◌}
use mathlib.Core.Bool.{true, false}
use Rattle.std.proofs.Common.{rules}
use Rattle.std.proofs.lemmas.Iterator.{first_from_Range, serves_from_Range}
use Rattle.xml.specs.Names.{names, name_in, number_of}
use Rattle.names.specs.Parts.{is_name}
use Rattle.names.proofs.FirstHit.{first-found}
use Rattle.names.proofs.GoodEntries.{good-at}
use Rattle.names.proofs.good.Names.entry_named.Goals as goal

pub find-requires-clause-callable : goal.find-requires-clause-callable
find-requires-clause-callable c =
    serves_from_Range (λ x q k. search rules) (λ x lo hi. let good = good-at c.args.self.now.list.now c.args.self.now.good x hi in search rules)

pub returns : goal.returns
unfolding number_of
returns c =
    let a = c.args in
    let l = a.self.now.list.now in
    let t = is_name l a.kind a.name.now in
    let hit =
    first_from_Range _ _ _ c.find.result (λ i. t i ≡ true) (λ i. t i ≡ false) c.find.ensures.ran (λ x q k. search rules) (λ x q k. search rules) in
    (first-found t (λ i. (name_in l i).number) (names l) c.find.result hit, search rules)
