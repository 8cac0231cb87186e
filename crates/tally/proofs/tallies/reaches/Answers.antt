use Rattle.tally.specs.Code.{deed_of}
use Rattle.word_laws.proofs.Parts.{part-whole}
use Rattle.word_laws.proofs.Lists.{get_d_map}
use Rattle.format.specs.Rule.{exclusion_at}
use Rattle.tally.specs.declared.deed.Deed.{Deed}
use lib.ListN.{length, get_or, take, length-append}
use Rattle.std.proofs.lemmas.List.{length-map}
use lib.Seq.{take-suc, take_all, length-take-le}
use native.Mathlib.Numerals.{add-one}
use native.Mathlib.Omega.{arith}
use mathlib.Core.List.{List, [], ◌∷◌, ◌++◌}
use mathlib.Core.Path.{ap, ◌∙◌}
use Prim.Native.Nat.{◌≤◌, ◌<◌}
use Rattle.tally.proofs.tallies.reaches.Goals as goal

pub loop-deed-preserved : goal.loop-deed-preserved
loop-deed-preserved c qs e small =
    let a = c.args in
    let l = c.loop-deed in
    let j = l.deed-index in
    let none : Deed = record { roles = record { 0 = 0 }; privilege = record { 0 = 0 } } in
    let h : j < length qs = omega (arith, length-map qs deed_of, ap length e) in
    let d = ap (λ (p : List Deed). get_or p j none) e ∙ get_d_map deed_of qs j [] none h in
    rw (add-one j, take-suc qs j [] h)
    (c.add-tally.ensures (exclusion_at a.b.now a.e) (take j qs) (get_or qs j []) (l.invariant qs e small) (omega (arith, length-take-le j qs (omega arith))) d (small j h))

pub returns : goal.returns
returns c qs e small =
    let a = c.args in
    let l = c.loop-deed in
    let whole = part-whole a.q.now 28 c.told-q in
    let n = length-map qs deed_of in
    let few : length qs ≤ l.deed-index = omega (arith, n, ap length e) in
    let taken = rw (take_all l.deed-index qs few) at (l.invariant qs e small) in
    let deed = c.read.ensures ∙ ap deed_of whole in
    let all = c.add.ensures (exclusion_at a.b.now a.e) qs a.q.now taken (omega (arith, n, ap length e)) deed (omega (arith, c.fits-q 8, c.fits-q 9)) in
    c.reached.ensures (qs ++ (a.q.now ∷ [])) all (omega (arith, n, ap length e, length-append qs (a.q.now ∷ [])))
