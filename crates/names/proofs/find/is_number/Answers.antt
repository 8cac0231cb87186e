use Rattle.xml.specs.Names.{name_in}
use Rattle.names.proofs.find.is_number.Goals as goal

pub returns : goal.returns
unfolding name_in
returns c = cc
