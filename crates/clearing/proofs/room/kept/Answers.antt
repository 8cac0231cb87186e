use Prim.Native.Nat.{ℕ, ◌+◌, ◌-◌, ◌*◌, ◌/◌, min}
use native.Mathlib.Omega.{arith}
use mathlib.Core.Path.{◌≡◌, sym, ap, ◌∙◌}
use lib.ListN.{length}
use borrow.Author.Tests.{eqb-true}
use Rattle.format.specs.Records.{records_here}
use Rattle.fields.specs.Code.{has_block}
use Rattle.clearing.specs.Cleared.{left_by}
use Rattle.clearing.proofs.Left.{length-here, left-all, left-by-one, rest-start}
use Rattle.clearing.proofs.After.{left-few}
use Rattle.clearing.proofs.Settled.{left-count}
use Rattle.clearing.proofs.room.kept.Goals.{then-has, else-has}
use Rattle.clearing.proofs.room.kept.Goals as goal

pub returns-then-is_empty : goal.returns-then-is_empty
returns-then-is_empty c =
    let a = c.args in
    let rs = records_here a.table.now a.n in
    let none = eqb-true a.ending.rules.0 0 (sym c.is_empty.ensures ∙ c.if-is_empty.true) in
    let stay : left_by a.ending.each a.q.now a.ending.rules.0 rs ≡ rs = rw none (left-all a.ending.each a.q.now rs c.requires.marked) in
    sym (ap length stay ∙ length-here a.table.now a.n)

pub loop-k-init : goal.loop-k-init
loop-k-init c =
    let a = c.args in
    let e : min a.n (15 * 0) ≡ 0 = omega arith in
    rw e (sym (ap length (rest-start (left-by-one a.ending.each a.q.now a.ending.rules.0) a.table.now)))

pub overflow_add-count : goal.overflow_add-count
overflow_add-count c =
    let a = c.args in
    let l = c.loop-k in
    let e : min a.n (15 * l.k) ≡ 15 * l.k = omega arith in
    let to = c.block_end-to.result in
    let few = left-few a.ending.each a.q.now a.ending.rules.0 (records_here a.table.now to) in
    record { fits = omega (arith, rw e at l.invariant, c.kept_between-count.ensures, few, length-here a.table.now to, c.block_end-to.ensures.3, c.requires.room.few, c.requires.room.most) }

pub overflow_add-count-else-has : goal.overflow_add-count-else-has
overflow_add-count-else-has c =
    let a = c.args in
    let l = c.loop-k in
    let at = min a.n (15 * l.k) in
    let few = left-few a.ending.each a.q.now a.ending.rules.0 (records_here a.table.now at) in
    record { fits = omega (arith, l.invariant, few, length-here a.table.now at, c.block_end-to.ensures.3, c.requires.room.few, c.requires.room.most) }

pub loop-k-preserved : goal.loop-k-preserved
loop-k-preserved c =
    let a = c.args in
    let l = c.loop-k in
    let to = c.block_end-to.result in
    let e : min a.n (15 * l.k) ≡ 15 * l.k = omega arith in
    let here = rw e at l.invariant in
    let end : c.block_end-to.result ≡ min a.n (15 * (l.k + 1)) = omega (arith, c.block_end-to.ensures.3) in
    elim c.if-has.branch [
      | then-has w ↦ rw (w.count-is, ← end) (ap (λ (x : ℕ). x + w.kept_between-count.result) here ∙ sym w.kept_between-count.ensures)
      | else-has w ↦
          let d : 15 * l.k + (to - 15 * l.k) ≡ to = omega arith in
          let off = sym c.has.ensures ∙ w.if-has.false in
          let more =
          left-count a.table.now a.n c.requires.marked a.ending.each a.q.now a.ending.rules.0 a.ending.near c.requires.near
          (15 * l.k) (to - 15 * l.k) (omega arith)
          (λ k lo hi. let b : k / 15 ≡ l.k = omega arith in ap (has_block a.ending.near) b ∙ off) in
          rw (w.count-is, ← end) (ap (λ (x : ℕ). x + (to - 15 * l.k)) here ∙ sym (rw d at more))
    ]
