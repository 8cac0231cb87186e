use Prim.Native.Nat.{◌*◌}
use mathlib.Core.Path.{◌≡◌, sym, ap, ◌∙◌}
use native.Mathlib.Omega.{arith}
use Rattle.words.specs.Lists.{tab}
use Rattle.sums.specs.Code.{sums_of}
use Rattle.format.specs.Block.{blocks, block}
use Rattle.format.specs.Table.{record_at, block_image}
use Rattle.table_write.specs.Writing.{over}
use Rattle.table_write.proofs.TableWritten.{start, skip, more, done, size-start, size-most, size-skip, size-more}
use Rattle.table_write.proofs.write.seal_blocks.Goals.{then-has, else-has}
use Rattle.table_write.proofs.write.seal_blocks.Goals as goal

pub loop-k-init : goal.loop-k-init
loop-k-init c = let a = c.args in (omega arith, start (sums_of a.stamp) a.table.now a.n, size-start a.changed)

pub overflow_add-written : goal.overflow_add-written
overflow_add-written c =
    let l = c.loop-k in
    let most = size-most c.args.changed l.k l.invariant.2 in
    omega arith

pub loop-k-preserved : goal.loop-k-preserved
loop-k-preserved c =
    let l = c.loop-k in
    let a = c.args in
    elim c.if-has.branch [
      | then-has w ↦
          rw (w.table-is, w.written-is) (
            omega arith,
            more l.invariant.1 (omega arith) (omega arith)
                (w.seal_block.ensures
                ∙ ap (λ m. over l.table (512 * l.k) 512 (block_image (sums_of a.stamp) (blocks a.table.now) l.k (tab (record_at (block l.table l.k)) 0 m)))
                w.records_in.ensures)
                w.seal_block.auto.table,
            size-more a.changed l.k l.invariant.2 (sym c.has.ensures ∙ w.if-has.true),
          )
      | else-has w ↦
          let off = sym c.has.ensures ∙ w.if-has.false in
          rw (w.table-is, w.written-is) (omega arith, skip l.invariant.1 (omega arith) c.requires.image_but off, size-skip a.changed l.k l.invariant.2 off)
    ]

pub shape_of-table : goal.shape_of-table
shape_of-table c = c.loop-k.invariant.1.long

pub returns : goal.returns
returns c =
    let l = c.loop-k in
    let a = c.args in
    let e : l.k ≡ blocks a.table.now = omega arith in
    (done (rw e at l.invariant.1) (omega arith), rw e at l.invariant.2)
