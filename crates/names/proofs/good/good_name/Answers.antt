use Rattle.xml.specs.Names.{name_in, good_name}
use Rattle.names.proofs.good.good_name.Goals as goal

pub returns : goal.returns
unfolding good_name name_in
returns c = cc
