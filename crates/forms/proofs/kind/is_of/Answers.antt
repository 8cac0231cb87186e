use Rattle.forms.specs.Form.{name_byte, is_of}
use Rattle.forms.proofs.kind.is_of.Goals as goal

pub returns-in-Space : goal.returns-in-Space
unfolding is_of
returns-in-Space c = cc

pub returns-in-Digit : goal.returns-in-Digit
unfolding is_of
returns-in-Digit c = cc

pub returns-in-Name : goal.returns-in-Name
unfolding is_of name_byte
returns-in-Name c = cc
