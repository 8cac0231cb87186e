use Prim.Native.Nat.{◌+◌}
use native.Mathlib.Omega.{arith}
use mathlib.Core.Path.{◌≡◌, refl, ap, ◌∙◌}
use Rattle.word_laws.proofs.Parts.{part-whole}
use Rattle.format.specs.Layout.{context_bytes}
use Rattle.format.specs.Request.{depth_of}
use Rattle.format.specs.Records.{record_here}
use Rattle.judge.specs.Close.{closed}
use Rattle.table_write.proofs.Placed.{room-placed}
use Rattle.closed_records.proofs.Closed.{closed-by-one, closed_none, closed-stay, still-named}
use Rattle.clearing.proofs.Settled.{settle-start, settle-stay, settle-drop}
use Rattle.closed_records.proofs.closing.close_records.Goals.{After-depth-levels}
use Rattle.closed_records.proofs.closing.close_records.Goals as goal

-- how many levels the context uses
levels-are : (d : After-depth-levels) → d.depth-levels.result ≡ depth_of d.args.context.now
levels-are d = d.depth-levels.ensures ∙ ap depth_of (part-whole d.args.context.now context_bytes (omega arith))

pub named_from-i-requires : goal.named_from-i-requires
named_from-i-requires c = record { levels_value = levels-are c; from_le_n = (omega arith, c.requires) }

pub loop-i-init : goal.loop-i-init
loop-i-init c =
    let f = c.named_from-i in
    let a = c.args in
    let start = settle-start (closed-by-one a.context.now) a.table.now in
    let e = f.ensures in
    (e.1, rw c.none.ensures (settle-stay 0 0 f.result start refl e.0 (closed-stay a.context.now start 0 f.result (omega arith) e.2)), e.3)

pub named_from-end-requires : goal.named_from-end-requires
named_from-end-requires c = record { levels_value = levels-are (goal.at.named_from-end-requires c).After-depth-levels; from_le_n = (omega (arith, c.loop-i-test.true), room-placed c.loop-i.invariant.1.placed c.requires) }

pub pass_records-settled-requires : goal.pass_records-settled-requires
pass_records-settled-requires c =
    let w = c.loop-i.invariant.1 in
    let r = room-placed w.placed c.requires in
    let e = c.named_from-end.ensures in
    (omega (arith, w.few), e.0, record { whole = r.whole; most = r.most; few = omega (arith, e.1, r.few) })

pub loop-i-smaller : goal.loop-i-smaller
loop-i-smaller c = omega (arith, c.named_from-end.ensures.0, c.loop-i-test.true)

pub loop-i-preserved : goal.loop-i-preserved
loop-i-preserved c =
    let l = c.loop-i in
    let a = c.args in
    let e = c.named_from-end.ensures in
    let gone = settle-drop l.invariant.1 (closed_none a.context.now (record_here l.table l.i) (l.invariant.2 c.loop-i-test.true)) in
    let on = c.pass_records-settled.ensures.0 (closed a.context.now) a.table.now (closed-stay a.context.now gone (l.i + 1) c.named_from-end.result (omega arith) e.2) gone in
    (e.1, on, λ k. still-named a.context.now gone on e.0 (e.3 k))

pub shape_of-table : goal.shape_of-table
shape_of-table c = c.loop-i.invariant.1.placed.long

pub returns : goal.returns
returns c =
    let l = c.loop-i in
    let e : l.i ≡ c.args.n = omega (arith, c.loop-i-test.false, l.invariant.0) in
    let w = l.invariant.1 in
    (rw e at w.records, w.placed)
