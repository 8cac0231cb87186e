use native.Mathlib.Omega.{arith}
use mathlib.Core.Path.{sym, ◌∙◌}
use Rattle.format.specs.Block.{blocks}
use Rattle.table_write.proofs.SliceBytes.{slice-bytes}
use Rattle.clearing.proofs.Settled.{settle-drop, settle-put}
use Rattle.clearing.proofs.settling.settle_record.Goals as goal

pub returns-in_default : goal.returns-in_default
returns-in_default g c = (λ t w. settle-drop w (rw c.record_start.ensures at c.in_default.ensures), omega (arith, c.requires.0))

pub returns-then-held-i : goal.returns-then-held-i
returns-then-held-i g c =
    let a = c.args in
    let h = c.requires.1 in
    let here = c.if-held-i.true in (
      λ t w.
          rw here
          (settle-put (rw here at w) (blocks a.table.now) c.in-Some.marks.0 c.remark.result (sym w.placed.long ∙ h.whole) (omega (arith, h.few))
          (slice-bytes a.table.now c.slice_known-1.given) c.remark.ensures.0 c.remark.ensures.1 (rw c.record_start.ensures at c.in-Some.ensures)),
      omega (arith, c.requires.0),
    )

pub returns : goal.returns
returns g c =
    let a = c.args in
    let h = c.requires.1 in (
      λ t w.
          settle-put w (blocks a.table.now) c.in-Some.marks.0 c.place.result (sym w.placed.long ∙ h.whole) (omega (arith, h.few))
          (slice-bytes a.table.now c.slice_known-1.given) c.place.ensures.0 c.place.ensures.1 (rw c.record_start.ensures at c.in-Some.ensures),
      omega (arith, c.requires.0),
    )
