use mathlib.Core.Path.{refl}
use Rattle.words.specs.Bytes.{bit}
use Rattle.fields.specs.Code.{has_block}
use Rattle.fields.proofs.blocks.BlockSet.has.Goals as goal

pub returns : goal.returns
unfolding has_block bit
returns c = refl
