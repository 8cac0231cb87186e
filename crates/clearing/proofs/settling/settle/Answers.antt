use Prim.Native.Nat.{◌+◌, ◌*◌, ◌/◌, min}
use native.Mathlib.Omega.{arith}
use mathlib.Core.Path.{◌≡◌, sym, ap, ◌∙◌}
use borrow.Author.Tests.{eqb-true}
use Rattle.fields.specs.Code.{has_block}
use Rattle.clearing.specs.Cleared.{left_of}
use Rattle.clearing.proofs.Left.{left-by-one}
use Rattle.clearing.proofs.Settled.{settle-start, settle-none, left_here}
use Rattle.clearing.proofs.settling.settle.Goals.{then-has, else-has}
use Rattle.clearing.proofs.settling.settle.Goals as goal

pub returns-then-is_empty : goal.returns-then-is_empty
returns-then-is_empty c =
    let a = c.args in
    rw c.none-none.ensures
    (settle-none a.ending.each a.q.now a.ending.rules.0 a.table.now a.n c.requires.marked
    (eqb-true a.ending.rules.0 0 (sym c.is_empty.ensures ∙ c.if-is_empty.true)))

pub loop-k-init : goal.loop-k-init
loop-k-init c =
    let a = c.args in
    let e : min a.n (15 * 0) ≡ 0 = omega arith in
    rw (c.none-none.ensures, e) (settle-start (left-by-one a.ending.each a.q.now a.ending.rules.0) a.table.now)

pub loop-k-preserved : goal.loop-k-preserved
loop-k-preserved c =
    let a = c.args in
    let l = c.loop-k in
    let end : c.block_end-to.result ≡ min a.n (15 * (l.k + 1)) = omega (arith, c.block_end-to.ensures.3) in
    let e : min a.n (15 * l.k) ≡ 15 * l.k = omega arith in
    let here = rw e at l.invariant in
    elim c.if-has.branch [
      | then-has w ↦ rw (w.table-is, w.settled-is, ← end) (w.settle_records-settled.ensures.0 a.table.now here)
      | else-has w ↦
          let off = sym c.has.ensures ∙ w.if-has.false in
          rw (w.table-is, w.settled-is, ← end)
          (w.pass_records-settled.ensures.0 (left_of a.ending a.q.now) a.table.now
          (λ k lo hi.
          let d : k / 15 ≡ l.k = omega arith in
          left_here a.table.now a.n c.requires.marked a.ending.each a.q.now a.ending.rules.0 a.ending.near c.requires.near k (omega arith) (ap (has_block a.ending.near) d ∙ off))
          here)
    ]
