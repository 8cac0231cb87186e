use Prim.Native.Nat.{ℕ, ◌<◌}
use native.Mathlib.Omega.{arith}
use mathlib.Core.Path.{◌≡◌, ◌∙◌}
use mathlib.Core.Bool.{true}
use Rattle.words.specs.Lists.{tab}
use Rattle.sums.specs.Code.{sums_of}
use Rattle.format.specs.Block.{blocks}
use Rattle.format.specs.Records.{records_here}
use Rattle.fields.specs.Code.{has_block}
use Rattle.format_laws.proofs.Accepted.{blocked}
use Rattle.fields.proofs.BlockSets.{in-range}
use Rattle.table_write.proofs.TableWritten.{all_changed, size-all}
use Rattle.table_write.proofs.write.fresh.Goals.{After-with_range}
use Rattle.table_write.proofs.write.fresh.Goals as goal

pub with_range-requires : goal.with_range-requires
with_range-requires c = (omega arith, (blocked 128 c.args.table.now c.requires).not-over)

-- every block is in the set
all : (r : After-with_range) (k : ℕ) → k < blocks r.args.table.now → has_block r.with_range.result k ≡ true
all r k h = r.with_range.ensures k ∙ in-range 0 _ k _ (omega arith) h

pub seal_blocks-requires : goal.seal_blocks-requires
seal_blocks-requires c = let t = c.args.table.now in
    let b = blocked 128 t c.requires in record { table_len = (b.whole-blocks, b.not-over); image_but = all_changed (sums_of c.args.stamp) t 0 c.with_range.result (all c) }

pub returns : goal.returns
unfolding records_here tab
returns c =
    let e = c.seal_blocks.ensures in
    let t = c.args.table.now in
    (e.0, e.1 ∙ size-all c.with_range.result (blocks t) (all (goal.at.returns c).After-with_range))
