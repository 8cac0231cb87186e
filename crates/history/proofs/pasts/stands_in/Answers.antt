use mathlib.Core.Path.{refl, sym, ap, ◌∙◌}
use mathlib.Core.Bool.{true, false}
use Rattle.words.specs.Bytes.{bit}
use Rattle.format.specs.Records.{record_from}
use Rattle.history.proofs.Turns.{stands}
use Rattle.history.proofs.pasts.stands_in.Goals as goal

pub returns-then-has : goal.returns-then-has
returns-then-has c =
    let a = c.args in
    let m = c.has.ensures ∙ ap (bit a.i) c.marks.ensures in
    let o = c.has-then-has.ensures ∙ ap (bit a.i) c.apart.ensures in
    stands a.each a.q.now a.i (record_from a.table.now a.at) true c.has-then-has.result (sym c.if-has.true ∙ m) o

pub returns-else-has : goal.returns-else-has
returns-else-has c =
    let a = c.args in
    let m = c.has.ensures ∙ ap (bit a.i) c.marks.ensures in
    c.if-has.false ∙ stands a.each a.q.now a.i (record_from a.table.now a.at) false _ (sym c.if-has.false ∙ m) refl
