use Rattle.forms.specs.Form.{is_of}
use borrow.Author.Rules.{rules}
use Rattle.names.proofs.bytes.name_byte.Goals as goal

pub returns : goal.returns
unfolding is_of
returns c = search rules
