-- What a table must be when its blocks are about to be written, and what it is then.
-- Assumes nothing.
use Rattle.std.specs.Prelude.{ℕ, ◌≤◌, ◌≡◌, List, length}
use Rattle.words.specs.Sums.{Sums}
use Rattle.format.specs.Layout.{capacity}
use Rattle.format.specs.Block.{blocks}
use Rattle.format.specs.Table.{Record, table_image}
use Rattle.format.specs.Records.{records_here}
use Rattle.format.specs.Altered.{altered_blocks}
use Rattle.fields.specs.Code.{HasRoom, no_block}
use Rattle.fields.specs.declared.blocks.BlockSet.{BlockSet}
use Rattle.table_write.specs.Writing.{Placed, ImageBut}
use Rattle.update.specs.declared.table_after.Written.{Written}

-- some table was the image of n records, and became t: a record was put at each of the first j places, and the blocks are noted in which another stood
pub record Became (x : Sums) (n : ℕ) (t : List ℕ) (j : ℕ) (set : BlockSet) : Type 0 where
  pub was : List ℕ
  pub room : HasRoom was n
  pub image : ImageBut x was n no_block
  pub placed : Placed was t j set
  pub few : j ≤ capacity (blocks was)

-- table s, which was the image of n records, has become t, the image of the records rs: so many are held, and so many blocks were written, those that have
-- other records than before
abbrev pub WrittenIs : Sums → List ℕ → ℕ → List ℕ → List Record → Written → Type 0
WrittenIs x s n t rs w = (t ≡ table_image x (blocks s) rs) × (w.held ≡ length rs) × (w.blocks ≡ altered_blocks (blocks s) (records_here s n) rs)
