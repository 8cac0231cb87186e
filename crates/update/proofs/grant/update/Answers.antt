use native.Mathlib.Omega.{arith}
use mathlib.Core.Path.{◌≡◌, sym, ap, ◌∙◌}
use lib.Dec.{leb}
use lib.ListN.{length}
use Rattle.format.specs.Layout.{capacity}
use Rattle.format.specs.Block.{blocks}
use Rattle.format.specs.Table.{records_of}
use Rattle.format.specs.Records.{records_here}
use Rattle.format_laws.proofs.Altered.{blocks-none}
use Rattle.table_write.proofs.SliceBytes.{slice-bytes}
use Rattle.clearing.specs.Cleared.{after_by}
use Rattle.update.proofs.Standing.{standing}
use Rattle.update.proofs.Updates.{held-few, no_room, room_fits, granted-is, written_is}
use mathlib.Core.Bool.{not}
use Rattle.update.proofs.grant.update.Goals.{After-has_room}
use Rattle.update.proofs.grant.update.Goals as goal

pub capacity-room-requires : goal.capacity-room-requires
capacity-room-requires c = c.requires.ready.room.most

-- there is room, by the table's own capacity
room-is : (h : After-has_room) → let a = h.args in
    h.has_room.result
    ≡ leb (length (after_by a.ending.each a.q.now a.ending.rules.0 a.gives.0 (records_here a.table.now a.n))) (capacity (blocks a.table.now))
room-is h = h.has_room.ensures ∙ ap (leb _) h.capacity-room.ensures

pub returns-then-not-has_room : goal.returns-then-not-has_room
returns-then-not-has_room c policy j =
    let t = c.args.table.now in
    let bytes = slice-bytes t c.slice_known-1.given in
    (no_room j (standing bytes j.accepted-table j.stamp-is j.held-are) (room-is (goal.at.returns-then-not-has_room c).After-has_room) (ap not c.if-not-has_room.true), sym (blocks-none (blocks t) (records_of t)))

pub write_after-after-requires : goal.write_after-after-requires
write_after-after-requires c = record { ready = c.requires.ready; table_value = c.requires.table_value; n_len_bound = room_fits _ _ (room-is (goal.at.write_after-after-requires c).After-has_room) (ap not c.if-not-has_room.false) }

pub granted-requires : goal.granted-requires
granted-requires c =
    let a = c.args in
    (omega (arith, c.requires.ready.room.most, c.requires.ready.room.few), held-few a.ending.each a.q.now a.ending.rules.0 a.gives.0 a.table.now a.n c.write_after-after.ensures.1)

pub returns : goal.returns
returns c policy j =
    let bytes = slice-bytes c.args.table.now c.slice_known-1.given in
    let st = standing bytes j.accepted-table j.stamp-is j.held-are in
    let e = c.write_after-after.ensures in (
      granted-is j st (room-is (goal.at.returns c).After-has_room) (ap not c.if-not-has_room.false) e.0 e.1 c.granted.ensures,
      written_is j st (room-is (goal.at.returns c).After-has_room) c.told-q (omega (arith, c.well_formed)) (ap not c.if-not-has_room.false) e.0 e.2,
    )
