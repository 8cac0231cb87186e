use Rattle.fields.proofs.BlockSets.{with-block}
use Rattle.fields.proofs.blocks.BlockSet.with.Goals as goal

pub returns : goal.returns
returns c i = with-block _ _ i c.requires
