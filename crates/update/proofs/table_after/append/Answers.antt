use Prim.Native.Nat.{◌<◌}
use native.Mathlib.Omega.{arith}
use mathlib.Core.Path.{◌≡◌, sym, ◌∙◌}
use borrow.Author.Tests.{eqb-true, eqb-false}
use Rattle.table_write.proofs.SliceBytes.{slice-bytes}
use Rattle.clearing.proofs.After.{recorded-one}
use Rattle.update.proofs.AfterLaws.{append-none, append-one, append-placed}
use Rattle.update.proofs.table_after.append.Goals.{Else-is_empty}
use Rattle.update.proofs.table_after.append.Goals as goal

pub returns-then-is_empty : goal.returns-then-is_empty
returns-then-is_empty c =
    let a = c.args in
    let none = eqb-true a.gives.0 0 (sym c.is_empty.ensures ∙ c.if-is_empty.true) in
    (append-none a.table.now a.left.held a.q.now a.gives.0 none, λ s p. p)

some : (c : Else-is_empty) → c.args.gives.0 ≡ 0 → ⊥
some c = eqb-false c.args.gives.0 0 (sym c.is_empty.ensures ∙ c.if-is_empty.false)

pub place_request-changed-requires : goal.place_request-changed-requires
place_request-changed-requires c =
    let h = c.requires in
    record { whole = h.whole; most = h.most; few = omega (arith, h.few, recorded-one c.args.gives.0 (some (goal.at.place_request-changed-requires c).Else-is_empty)) }

pub returns : goal.returns
returns c =
    let a = c.args in
    let t = a.table.now in
    let gives = a.gives.0 in
    let small : gives < 4294967296 = omega (arith, c.well_formed) in
    let put = c.place_request-changed.ensures in (
      append-one t a.left.held a.q.now gives (some (goal.at.returns c).Else-is_empty) small c.told-q c.requires put.0,
      append-placed t a.left.held a.q.now gives (some (goal.at.returns c).Else-is_empty) small c.told-q c.requires put.0
          (slice-bytes t c.slice_known-1.given) a.left.changed c.place_request-changed.result put.1,
    )
