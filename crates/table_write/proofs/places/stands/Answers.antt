use Prim.Native.Nat.{ℕ}
use mathlib.Core.Path.{◌≡◌, sym, ap, ◌∙◌}
use mathlib.Core.Bool.{Bool, false, ◌&&◌, and-true, and-false}
use borrow.Author.Tests.{eq-eqb, ne_eqb}
use Rattle.words.specs.Lists.{same_list}
use Rattle.words.specs.Bytes.{part}
use Rattle.format.specs.Layout.{request_bytes}
use Rattle.format.specs.Table.{Record}
use Rattle.format.specs.Records.{record_from}
use Rattle.format.specs.Altered.{same_record}
use Rattle.table_write.proofs.places.stands.Goals as goal

-- its marks and the others, with which they are compared
module _ (r r' : Record) (x : ℕ) (is : x ≡ r.marks) where
  others : (x ≡ r'.marks → ⊥) → false ≡ same_record r r'
  unfolding same_record
  others h = sym (ap (λ (b : Bool). same_list r.request r'.request && b) (ne_eqb r.marks r'.marks (λ e. h (is ∙ e))) ∙ and-false (same_list r.request r'.request))

  alike : x ≡ r'.marks → {b : Bool} → b ≡ same_list r.request r'.request → b ≡ same_record r r'
  unfolding same_record
  alike h f =
      f ∙ sym (ap (λ (b : Bool). same_list r.request r'.request && b) (eq-eqb r.marks r'.marks (sym is ∙ h)) ∙ and-true (same_list r.request r'.request))

pub returns-then-marks : goal.returns-then-marks
returns-then-marks c =
    let a = c.args in
    others (record_from a.table.now a.to) (record { request = part a.request.now a.from request_bytes; marks = a.marks.0 }) c.marks.result.0 c.marks.ensures c.if-marks.true

pub returns : goal.returns
returns c =
    let a = c.args in
    alike (record_from a.table.now a.to) (record { request = part a.request.now a.from request_bytes; marks = a.marks.0 }) c.marks.result.0 c.marks.ensures
    c.if-marks.false c.same_words.ensures
