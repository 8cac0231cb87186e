use Prim.Native.Nat.{ℕ, ◌+◌, ◌≤◌}
use native.Mathlib.Omega.{arith}
use mathlib.Core.Path.{◌≡◌, sym, ap, ◌∙◌}
use mathlib.Core.List.{List}
use lib.ListN.{length}
use Rattle.words.specs.Bytes.{part}
use Rattle.format.specs.Records.{record_here}
use Rattle.table_write.proofs.SliceBytes.{slice-bytes}
use Rattle.table_write.proofs.Placed.{filled-known, filled-before, filled-now}
use Rattle.table_write.proofs.places.place.Goals.{After-record_start-to}
use Rattle.table_write.proofs.places.place.Goals as goal

-- the record to be moved lies in the table, behind its new place
module _ (p : After-record_start-to) where
  moves : (p.record_start-to.result ≤ p.record_start-from.result) × (p.record_start-from.result + 32 ≤ length p.args.table.now)
  moves =
      let h = p.requires.1 in
      (omega (arith, p.record_start-to.ensures, p.record_start-from.ensures, p.requires.0), omega (arith, p.record_start-from.ensures, h.whole, h.few))

  -- its request
  asked : let a = p.args in ◌≡◌ {A = List ℕ} (part a.table.now p.record_start-from.result 28) (record_here a.table.now a.i).request
  asked = ap {B = List ℕ} (λ (x : ℕ). part p.args.table.now x 28) p.record_start-from.ensures

pub move_record-requires : goal.move_record-requires
move_record-requires c = moves (goal.at.move_record-requires c).After-record_start-to

pub returns-then-has : goal.returns-then-has
returns-then-has c =
    let a = c.args in
    filled-known a.table.now a.j _ c.record_start-to.ensures _ _ (asked (goal.at.returns-then-has c).After-record_start-to) a.marks.0 a.changed
    (sym c.has.ensures ∙ c.if-has.true) c.move_record.ensures

pub stands-requires : goal.stands-requires
stands-requires c =
    let h = c.requires.1 in
    (omega (arith, c.record_start-to.ensures, h.whole, h.few, c.requires.0), omega (arith, c.record_start-from.ensures, h.whole, h.few))

pub returns-then-stands : goal.returns-then-stands
returns-then-stands c =
    let a = c.args in
    let h = c.requires.1 in
    let s = a.table.now in
    filled-before s a.j _ c.record_start-to.ensures _ _ (asked (goal.at.returns-then-stands c).After-record_start-to) a.marks.0 c.stands.ensures a.changed
    (slice-bytes s c.slice_known-1.given) (omega (arith, h.whole, h.few, c.requires.0)) c.if-stands.true

pub move_record-requires-2 : goal.move_record-requires-2
move_record-requires-2 c = moves (goal.at.move_record-requires-2 c).After-record_start-to

pub returns : goal.returns
returns c =
    let a = c.args in
    filled-now a.table.now a.j _ c.record_start-to.ensures _ _ (asked (goal.at.returns c).After-record_start-to) a.marks.0 c.stands.ensures a.changed
    c.with.result c.if-stands.false c.move_record-2.ensures c.with.ensures
