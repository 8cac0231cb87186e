use Rattle.words.specs.Sums.{add_word}
use Rattle.sums.proofs.sum.Sum.add.Goals as goal

pub returns : goal.returns
unfolding add_word
returns c = cc
