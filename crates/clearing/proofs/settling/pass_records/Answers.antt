use native.Mathlib.Omega.{arith}
use mathlib.Core.Path.{◌≡◌, refl, sym, ap, ◌∙◌}
use Rattle.format.specs.Block.{blocks}
use Rattle.format.specs.Records.{record_from, record_here}
use Rattle.fields.specs.Code.{HasRoom}
use Rattle.table_write.proofs.SliceBytes.{slice-bytes}
use Rattle.clearing.proofs.Settled.{settle-stay, settle-move}
use Rattle.clearing.proofs.settling.pass_records.Goals.{At-loop-i}
use Rattle.clearing.proofs.settling.pass_records.Goals as goal

pub returns-then-held-from : goal.returns-then-held-from
returns-then-held-from c =
    let a = c.args in
    (λ rest t stays w. settle-stay a.from a.left.held a.to w c.if-held-from.true c.requires.1 stays, omega arith)

pub loop-i-init : goal.loop-i-init
loop-i-init c =
    let p = c.requires in
    ((omega arith, p.1, p.0), (refl, slice-bytes _ c.slice_known-1.given), λ rest s stays w. w)

room : (h : At-loop-i) → HasRoom h.loop-i.table h.args.to
room h =
    let r = h.requires.2 in
    let long = h.loop-i.invariant.1.0 in
    record { whole = omega (arith, long, r.whole); most = omega (arith, long, r.most); few = omega (arith, long, r.few) }

pub place-changed-requires : goal.place-changed-requires
place-changed-requires c =
    let r = room (goal.at.place-changed-requires c).At-loop-i in
    (c.loop-i.invariant.0.2, record { whole = r.whole; most = r.most; few = omega (arith, c.loop-i-test.true, r.few) })

pub loop-i-preserved : goal.loop-i-preserved
loop-i-preserved c =
    let l = c.loop-i in
    let more = c.loop-i-test.true in
    let r = room (goal.at.loop-i-preserved c).At-loop-i in
    let placed = c.place-changed.ensures in
    let marks : c.marks-marks.result.0 ≡ (record_here l.table l.i).marks = c.marks-marks.ensures ∙ ap (λ at. (record_from l.table at).marks) c.record_start.ensures in (
      (omega (arith, l.invariant.0.0), omega (arith, more), omega (arith, l.invariant.0.2)),
      (c.place-changed.auto.table ∙ l.invariant.1.0, slice-bytes _ c.slice_known-in-loop-i-1.given),
      λ rest s stays w.
          let v = l.invariant.2 rest s stays w in
          settle-move v (blocks l.table) c.marks-marks.result.0 c.place-changed.result (sym v.placed.long ∙ r.whole) (omega (arith, more, r.few)) l.invariant.1.1
          placed.0 placed.1 marks (stays l.i l.invariant.0.0 more),
    )

pub shape_of-table : goal.shape_of-table
shape_of-table c = c.loop-i.invariant.1.0

pub returns : goal.returns
returns c =
    let l = c.loop-i in
    let e : l.i ≡ c.args.to = omega (arith, l.invariant.0.1) in
    (rw e at l.invariant.2, rw e at l.invariant.0.2)
