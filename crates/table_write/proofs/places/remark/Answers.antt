use Prim.Native.Nat.{ℕ, ◌+◌, ◌≤◌}
use native.Mathlib.Omega.{arith}
use mathlib.Core.Path.{◌≡◌, sym, ap, ◌∙◌}
use mathlib.Core.List.{List}
use lib.Dec.{eqb}
use lib.ListN.{length}
use lib.Seq.{sets-eq}
use borrow.Author.Tests.{eq-eqb, ne_eqb}
use Rattle.words.specs.Bytes.{part, bytes4}
use Rattle.format.specs.Records.{record_from}
use Rattle.format.specs.Altered.{same_record}
use Rattle.table_write.proofs.SliceBytes.{slice-bytes}
use Rattle.table_write.proofs.Over.{stays-before}
use Rattle.table_write.proofs.Placed.{same-marks, filled-before, filled-now}
use Rattle.table_write.proofs.places.remark.Goals.{After-marks}
use Rattle.table_write.proofs.places.remark.Goals as goal

-- the marks there are these, or not
told : (m : After-marks) → let a = m.args in
    let at = m.record_start-at.result in
    eqb m.marks.result.0 a.marks.0 ≡ same_record (record_from a.table.now at) (record { request = part a.table.now at 28; marks = a.marks.0 })
told m =
    let a = m.args in
    ap (λ (x : ℕ). eqb x a.marks.0) m.marks.ensures ∙ sym (same-marks (record_from a.table.now m.record_start-at.result) a.marks.0)

pub returns-then-marks : goal.returns-then-marks
returns-then-marks c =
    let a = c.args in
    let h = c.requires in
    let s = a.table.now in
    filled-before s a.i _ c.record_start-at.ensures _ _ (ap {B = List ℕ} (λ (x : ℕ). part s x 28) c.record_start-at.ensures) a.marks.0 (told (goal.at.returns-then-marks c).After-marks) a.changed
    (slice-bytes s c.slice_known-1.given) (omega (arith, h.whole, h.few)) (eq-eqb _ _ c.if-marks.true)

pub returns : goal.returns
returns c =
    let a = c.args in
    let h = c.requires in
    let s = a.table.now in
    let at = c.record_start-at.result in
    let in' : at + 28 + 4 ≤ length s = omega (arith, c.record_start-at.ensures, h.whole, h.few) in
    filled-now s a.i _ c.record_start-at.ensures _ _ (ap {B = List ℕ} (λ (x : ℕ). part s x 28) c.record_start-at.ensures) a.marks.0 (told (goal.at.returns c).After-marks) a.changed
    c.with.result (ne_eqb _ _ c.if-marks.false)
    (c.put_u32.ensures ∙ sets-eq (bytes4 a.marks.0) s (at + 28) in' ∙ stays-before s (bytes4 a.marks.0) at 28 4) c.with.ensures
