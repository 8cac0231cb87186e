use Rattle.sums.proofs.sum.add_at.Goals as goal

-- src/sum.rt:39:1
pub returns : goal.returns
returns c = cc
