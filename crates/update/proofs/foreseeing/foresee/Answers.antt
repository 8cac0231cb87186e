use native.Mathlib.Omega.{arith}
use mathlib.Core.Path.{refl, ap}
use mathlib.Core.List.{List}
use Prim.Native.Nat.{ℕ}
use Rattle.format.specs.Answer.{Outcome}
use Rattle.table_write.proofs.SliceBytes.{slice-bytes}
use Rattle.update.proofs.Standing.{standing}
use Rattle.update.proofs.Updates.{held-few, too_many, few-enough, no_room, granted-is}
use Rattle.update.proofs.foreseeing.foresee.Goals as goal

pub returns-then-room-held : goal.returns-then-room-held
returns-then-room-held c policy t j =
    let bytes = slice-bytes c.args.table.now c.shared_slice_known-1.given in
    ap (λ (o : Outcome (List ℕ)). o.answer)
    (no_room j (standing bytes j.accepted-table j.stamp-is j.held-are)
    (too_many c.held_after-held.ensures c.capacity-room.ensures (omega (arith, c.if-room-held.true))) refl)

pub granted-requires : goal.granted-requires
granted-requires c =
    let a = c.args in
    (omega (arith, c.requires.room.most, c.requires.room.few), omega (arith, held-few a.ending.each a.q.now a.ending.rules.0 a.gives.0 a.table.now a.n c.held_after-held.ensures))

pub returns : goal.returns
returns c policy t j =
    let bytes = slice-bytes c.args.table.now c.shared_slice_known-1.given in
    ap (λ (o : Outcome (List ℕ)). o.answer)
    (granted-is j (standing bytes j.accepted-table j.stamp-is j.held-are)
    (few-enough c.held_after-held.ensures c.capacity-room.ensures (omega (arith, c.if-room-held.false))) refl
    refl c.held_after-held.ensures c.granted.ensures)
