use Rattle.words.specs.Bytes.{bit}
use borrow.Author.Rules.{rules}
use Rattle.fields.proofs.field.bit.Goals as goal

pub returns : goal.returns
unfolding bit
returns c = search rules
