use Rattle.sums.specs.Code.{go_on}
use Rattle.sums.proofs.sum.Sum.add_checked.Goals as goal

pub returns : goal.returns
unfolding go_on
returns c = cc
