use mathlib.Core.Path.{◌∙◌}
use Rattle.std.proofs.Common.{rules}
use Rattle.forms.specs.Form.{ascii}
use Rattle.reader.specs.Words.{words}
use Rattle.reader.proofs.Letters.{word-row}
use Rattle.reader.proofs.word.word.Goals as goal

pub returns : goal.returns
unfolding words ascii
returns c = search rules ∙ word-row c.args.w
