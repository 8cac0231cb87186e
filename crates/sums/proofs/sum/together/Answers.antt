use Rattle.sums.specs.Code.{together}
use Rattle.sums.proofs.sum.together.Goals as goal

-- src/sum.rt:90:1
pub returns : goal.returns
unfolding together
returns c = cc
