use Rattle.std.proofs.Common.{◌≡◌, sym, ◌∙◌, ap, not, true, false, eqb, ◌+◌}
use Rattle.words.specs.Bytes.{u32_at}
use Rattle.format.specs.Policy.{policy_of}
use Rattle.table_check.proofs.Marked.{unmarked, bad-request, by-marks}
use Rattle.table_check.proofs.record.good_record.Goals.{then-not-is_empty, else-not-is_empty, After-is_empty}
use Rattle.table_check.proofs.record.good_record.Goals as goal

empty : (c : After-is_empty) → let a = c.args in c.is_empty.result ≡ eqb (u32_at a.s.now (a.at + 28)) 0
empty c = rw c.marks.ensures at c.is_empty.ensures

pub returns-then-good_request : goal.returns-then-good_request
returns-then-good_request c =
    let a = c.args in
    let p = policy_of a.tests.now.policy.image.now in
    let e = empty (goal.at.returns-then-good_request c).After-is_empty in
    elim c.if-not-is_empty.branch [
      | then-not-is_empty w ↦
          let good = sym w.good_request.ensures ∙ sym w.value-is ∙ c.if-good_request.true in
          c.good_marks.ensures good ∙ by-marks p a.s.now a.at (sym e ∙ w.if-not-is_empty.true) good
      | else-not-is_empty w ↦ let no : false ≡ true = ap not (sym w.if-not-is_empty.false) ∙ sym w.value-is ∙ c.if-good_request.true in cc
    ]

pub returns-else-good_request : goal.returns-else-good_request
returns-else-good_request c =
    let a = c.args in
    let p = policy_of a.tests.now.policy.image.now in
    let e = empty (goal.at.returns-else-good_request c).After-is_empty in
    elim c.if-not-is_empty.branch [
      | then-not-is_empty w ↦ c.if-good_request.false ∙ bad-request p a.s.now a.at (sym w.good_request.ensures ∙ sym w.value-is ∙ c.if-good_request.false)
      | else-not-is_empty w ↦ c.if-good_request.false ∙ unmarked p a.s.now a.at (sym e ∙ w.if-not-is_empty.false)
    ]
