use native.Mathlib.Omega.{arith}
use mathlib.Core.Path.{◌≡◌, refl, ◌∙◌}
use Rattle.clearing.proofs.settling.settle_records.Goals as goal

pub loop-i-init : goal.loop-i-init
loop-i-init g c = let p = c.requires in (p.1, p.0, refl, λ s w. w)

pub settle_record-settled-requires : goal.settle_record-settled-requires
settle_record-settled-requires g c =
    let l = c.loop-i in
    let p = c.requires in
    let h = p.2 in
    let long = l.invariant.2 in
    let more = c.loop-i-test.true in
    (l.invariant.1, record { whole = omega (arith, long, h.whole); most = omega (arith, long, h.most); few = omega (arith, long, more, h.few) })

pub loop-i-preserved : goal.loop-i-preserved
loop-i-preserved g c =
    let l = c.loop-i in
    let e = c.settle_record-settled.ensures in
    (omega arith, e.1, c.settle_record-settled.auto.table ∙ l.invariant.2, λ s w. e.0 s (l.invariant.3 s w))

pub shape_of-table : goal.shape_of-table
shape_of-table g c = c.loop-i.invariant.2

pub returns : goal.returns
returns g c =
    let l = c.loop-i in
    let e : l.i ≡ c.args.to = omega arith in
    (rw e at l.invariant.3, rw e at l.invariant.1)
