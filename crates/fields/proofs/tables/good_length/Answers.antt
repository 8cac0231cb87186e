use Rattle.format.specs.Block.{good_length}
use borrow.Author.Rules.{rules}
use Rattle.fields.proofs.tables.good_length.Goals as goal

pub returns : goal.returns
unfolding good_length
returns c = search rules
