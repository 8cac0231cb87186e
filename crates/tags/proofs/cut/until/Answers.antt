use native.Mathlib.Omega.{arith}
use mathlib.Core.Path.{sym, ◌∙◌}
use borrow.Author.Tests.{tests}
use lib.Dec.{eqb}
use Rattle.std.proofs.Common.{rules}
use Rattle.std.proofs.lemmas.Iterator.{YieldsList-from_slice}
use Rattle.std.proofs.lemmas.Iterator.Search.{position_from_yields_List}
use Rattle.tags.specs.Cut.{span}
use Rattle.tags.proofs.Spans.{span-length}
use Rattle.tags.proofs.Pieces.{until-within}
use Rattle.tags.proofs.Places.{found_or-length, until-position}
use Rattle.tags.proofs.cut.until.Goals as goal

pub returns : goal.returns
returns c =
    let a = c.args in
    let s = span a.text.now a.from a.to in
    let found = position_from_yields_List (λ x. eqb x a.b) _ _ _ c.position.ensures.ran (YieldsList-from_slice s cc) (λ x b q k. search (rules, tests)) in
    let e = c.unwrap_or.ensures ∙ found_or-length (λ x. eqb x a.b) s found ∙ sym (until-position a.b s) in
    let few = until-within a.b s in
    let long = span-length a.text.now a.from a.to (omega arith) in
    (omega arith, omega arith, omega arith)
