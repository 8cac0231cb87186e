use mathlib.Core.Path.{sym, ◌∙◌}
use borrow.Author.Tests.{eqb-true, eqb-false}
use Rattle.format.specs.Records.{record_from}
use Rattle.clearing.proofs.Left.{left-none, left-with}
use Rattle.clearing.proofs.settling.ClearingFate.marks_left.Goals as goal

pub returns-then-is_empty : goal.returns-then-is_empty
returns-then-is_empty c =
    let a = c.args in
    let e = a.self.now.ending in
    left-none e.each a.self.now.q.now e.rules.0 (record_from a.table.now a.at)
    (sym c.cleared_marks-marks.ensures ∙ eqb-true c.cleared_marks-marks.result.0 0 (sym c.is_empty.ensures ∙ c.if-is_empty.true))

pub returns-else-is_empty : goal.returns-else-is_empty
returns-else-is_empty c =
    let a = c.args in
    let e = a.self.now.ending in
    left-with e.each a.self.now.q.now e.rules.0 (record_from a.table.now a.at) c.cleared_marks-marks.ensures
    (eqb-false c.cleared_marks-marks.result.0 0 (sym c.is_empty.ensures ∙ c.if-is_empty.false))
