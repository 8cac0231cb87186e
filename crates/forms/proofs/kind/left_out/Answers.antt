use mathlib.Core.Bool.{or-false}
use lib.Dec.{eqb}
use Rattle.words.specs.Lists.{any_of}
use Rattle.forms.specs.Form.{ascii}
use Rattle.forms.proofs.kind.left_out.Goals as goal

pub returns : goal.returns
unfolding ascii any_of
returns c = cc (or-false (eqb c.args.b 33))
