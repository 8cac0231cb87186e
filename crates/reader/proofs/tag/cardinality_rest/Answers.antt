use native.Mathlib.Omega.{arith}
use mathlib.Core.Path.{refl}
use Rattle.forms.specs.Form.{Form}
use Rattle.xml.specs.Grammar.{◌▸◌, text, gap, number, attribute, spaced}
use Rattle.reader.proofs.Computed.{computed}
use Rattle.reader.proofs.Scans.{given_on}
use Rattle.reader.proofs.Pieces.{scans-then, scans-stops, scans-fit}
use Rattle.reader.proofs.tag.cardinality_rest.Goals as goal

abbrev front : Form
front = spaced (attribute "ForbiddenCardinality" number)

pub spaced-requires : goal.spaced-requires
unfolding computed
spaced-requires c = (c.requires, (omega arith, refl))

pub returns-in_err-end : goal.returns-in_err-end
unfolding computed
returns-in_err-end c = rw (given_on c.from_residual.ensures.1) (scans-stops front (gap ▸ text ">") refl c.in_err-end.ensures)

pub word_after-requires : goal.word_after-requires
unfolding computed
word_after-requires c = (scans-fit front c.in_ok-end.ensures, (omega arith, refl))

pub returns : goal.returns
unfolding computed
returns c = scans-then front (gap ▸ text ">") refl c.in_ok-end.ensures c.word_after.ensures
