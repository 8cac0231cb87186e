use native.Mathlib.Omega.{arith}
use mathlib.Core.Path.{refl, sym}
use Rattle.names.proofs.LookUps.{name-found, named-text}
use Rattle.names.proofs.GoodTexts.{GoodText}
use Rattle.text_write.proofs.Laying.{told}
use Rattle.text_write.proofs.Naming.{name-missing, name-there}
use Rattle.text_write.proofs.put.put_name.Goals.{In-Some}
use Rattle.text_write.proofs.put.put_name.Goals as goal

-- a listed name has at most 60 bytes
good : (c : In-Some) → GoodText c.in-Some.name.now
good c =
    let l = c.args.names.now.list.now in
    let a = c.args in
    let w = c.in-Some.name.now in
    named-text l a.names.now.good a.kind a.number w (name-found l a.kind a.number w (sym c.in-Some.ensures))

pub put-requires : goal.put-requires
put-requires c = let g = good (goal.at.put-requires c).In-Some in omega (arith, g.length_to)

pub returns-in_default-clause-puts : goal.returns-in_default-clause-puts
returns-in_default-clause-puts c = name-missing c.args.output.now c.args.at (sym c.in_default.ensures)

pub returns-clause-puts : goal.returns-clause-puts
returns-clause-puts c =
    let g = good (goal.at.returns-clause-puts c).In-Some in
    name-there (sym c.in-Some.ensures) (told c.put.ensures refl g.length_to)
