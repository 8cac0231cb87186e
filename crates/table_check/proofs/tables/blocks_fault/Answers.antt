use native.Mathlib.Omega.{arith}
use mathlib.Core.Path.{refl, sym, ◌∙◌}
use Rattle.std.proofs.lemmas.Result.{err_from_is_err_and}
use Rattle.words.specs.Lists.{any_below}
use Rattle.word_laws.proofs.First.{first-start, first-hit, first_more, first_done}
use Rattle.format.specs.Block.{blocks}
use Rattle.table_check.proofs.TableBlock.{fault-of-block, short-more}
use Rattle.table_check.proofs.tables.blocks_fault.Goals as goal

pub loop-k-init : goal.loop-k-init
unfolding any_below
loop-k-init c = (refl, first-start _ (blocks c.args.table.now))

pub returns-in_err-block_fault : goal.returns-in_err-block_fault
returns-in_err-block_fault c =
    let p = err_from_is_err_and c.from_residual.result c.from_residual.ensures.1 in
    let l = c.loop-k in
    let s = c.args.table.now in
    let fault = (rw (c.block-b.ensures, l.invariant.0) at c.in_err-block_fault.ensures) ∙ fault-of-block s l.k _ _ in
    rw (p.1, p.2) (first-hit _ l.k (blocks s) l.invariant.1 (omega arith) (sym fault))

pub loop-k-preserved : goal.loop-k-preserved
loop-k-preserved c =
    let s = c.args.table.now in
    let l = c.loop-k in
    let fault = (rw (c.block-b.ensures, l.invariant.0) at c.in_ok-block_fault.ensures) ∙ fault-of-block s l.k _ _ in (
      rw (l.invariant.0, c.count.ensures, c.block-b.ensures) (short-more s l.k),
      first_more _ l.k (blocks s) l.invariant.1 (omega arith) (sym fault),
    )

pub returns : goal.returns
returns c = first_done _ _ _ c.loop-k.invariant.1 c.loop-k-test.false
