use native.Mathlib.Omega.{arith}
use Prim.Native.Nat.{ℕ}
use mathlib.Core.Path.{sym, ap, ◌∙◌}
use mathlib.Core.List.{List, ◌++◌}
use Rattle.words.specs.Bytes.{bytes4, part}
use Rattle.word_laws.proofs.Parts.{part-whole}
use Rattle.table_write.specs.Writing.{over}
use Rattle.table_write.proofs.SliceBytes.{slice-bytes}
use Rattle.table_write.proofs.Placed.{filled-before, filled-now}
use Rattle.table_write.proofs.places.place_request.Goals as goal

pub returns-then-stands : goal.returns-then-stands
returns-then-stands c =
    let a = c.args in
    let h = c.requires in
    let s = a.table.now in
    filled-before s a.j _ c.record_start-to.ensures _ _ (part-whole a.q.now 28 c.told-q) a.marks.0
    c.stands.ensures a.changed (slice-bytes s c.slice_known-1.given) (omega (arith, h.whole, h.few)) c.if-stands.true

pub returns : goal.returns
returns c =
    let a = c.args in
    let s = a.table.now in
    let whole = part-whole a.q.now 28 c.told-q in
    filled-now s a.j _ c.record_start-to.ensures (part a.q.now 0 28) _ whole a.marks.0
    c.stands.ensures a.changed c.with.result c.if-stands.false
    (c.put_record.ensures ∙ ap {B = List ℕ} (λ (x : List ℕ). over s c.record_start-to.result 32 (x ++ bytes4 a.marks.0)) (sym whole)) c.with.ensures
