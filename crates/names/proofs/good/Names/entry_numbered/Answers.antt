use mathlib.Core.Path.{◌≡◌}
use mathlib.Core.Bool.{true, false}
use Rattle.std.proofs.Common.{rules}
use Rattle.std.proofs.lemmas.Iterator.{first_from_Range}
use Rattle.xml.specs.Names.{names, name_in, name_of}
use Rattle.names.specs.Parts.{is_number}
use Rattle.names.proofs.FirstHit.{first-found}
use Rattle.names.proofs.good.Names.entry_numbered.Goals as goal

pub returns : goal.returns
unfolding name_of
returns c =
    let a = c.args in
    let l = a.self.now.list.now in
    let t = is_number l a.kind a.number in
    let hit =
    first_from_Range _ _ _ c.find.result (λ i. t i ≡ true) (λ i. t i ≡ false) c.find.ensures.ran (λ x q k. search rules) (λ x q k. search rules) in
    (first-found t (λ i. (name_in l i).bytes) (names l) c.find.result hit, search rules)
