use Rattle.sums.specs.Code.{sums_of}
use Rattle.table_write.proofs.Placed.{room-placed, placed-image}
use Rattle.update.proofs.AfterLaws.{written_held, written-image, written-altered}
use Rattle.update.proofs.table_after.write_settled.Goals as goal

pub seal_blocks-blocks-requires : goal.seal_blocks-blocks-requires
seal_blocks-blocks-requires c = let b = c.requires in
    let h = room-placed b.placed b.room in record { table_len = (h.whole, h.most); image_but = placed-image b.placed c.args.n c.with_resized-changed.result c.with_resized-changed.ensures (sums_of c.args.stamp) b.image }

pub returns : goal.returns
returns c s rs p here =
    let a = c.args in (
      written-image p here (sums_of a.stamp) c.seal_blocks-blocks.ensures.0,
      written_held p here,
      written-altered p here a.n c.with_resized-changed.result c.with_resized-changed.ensures c.seal_blocks-blocks.ensures.1,
    )
