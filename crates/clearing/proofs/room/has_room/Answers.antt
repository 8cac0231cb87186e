use Prim.Native.Nat.{ℕ}
use native.Mathlib.Omega.{arith}
use mathlib.Core.Path.{sym, ◌∙◌}
use lib.ListN.{length}
use borrow.Author.Tests.{le-leb, eqb-true, eqb-false}
use Rattle.format.specs.Records.{records_here}
use Rattle.clearing.specs.Cleared.{after_by}
use Rattle.clearing.proofs.Left.{length-here}
use Rattle.clearing.proofs.After.{after-few, counted-room, recorded-none, recorded-one}
use Rattle.clearing.proofs.room.has_room.Goals.{After-is_empty}
use Rattle.clearing.proofs.room.has_room.Goals as goal

-- how many records the new table has
held : (e : After-is_empty) → ℕ
held e =
    let a = e.args in
    length (after_by a.ending.each a.q.now a.ending.rules.0 a.gives.0 (records_here a.table.now a.n))

pub returns-then-is_empty : goal.returns-then-is_empty
unfolding held
returns-then-is_empty c =
    let a = c.args in
    sym (le-leb (held (goal.at.returns-then-is_empty c).After-is_empty) a.room
    (omega (
      arith,
      after-few a.ending.each a.q.now a.ending.rules.0 a.gives.0 (records_here a.table.now a.n),
      length-here a.table.now a.n,
      recorded-none a.gives.0 (eqb-true a.gives.0 0 (sym c.is_empty.ensures ∙ c.if-is_empty.true)),
      c.requires.n_le_room,
    )))

pub returns-then-n-room : goal.returns-then-n-room
unfolding held
returns-then-n-room c =
    let a = c.args in
    sym (le-leb (held (goal.at.returns-then-n-room c).After-is_empty) a.room
    (omega (
      arith,
      after-few a.ending.each a.q.now a.ending.rules.0 a.gives.0 (records_here a.table.now a.n),
      length-here a.table.now a.n,
      recorded-one a.gives.0 (eqb-false a.gives.0 0 (sym c.is_empty.ensures ∙ c.if-is_empty.false)),
      c.if-n-room.true,
    )))

pub returns : goal.returns
returns c =
    let a = c.args in
    let some = eqb-false a.gives.0 0 (sym c.is_empty.ensures ∙ c.if-is_empty.false) in
    counted-room a.ending.each a.q.now a.ending.rules.0 a.gives.0 (records_here a.table.now a.n) some c.kept.result a.room c.kept.ensures
