use native.Mathlib.Numerals.{add-one}
use native.Mathlib.Omega.{arith}
use Rattle.words.specs.Lists.{all_below}
use borrow.Author.Rules.{rules}
use Rattle.names.proofs.good.good_bytes.Goals as goal

pub loop-j-init : goal.loop-j-init
unfolding all_below
loop-j-init c = search rules

pub loop-j-preserved : goal.loop-j-preserved
unfolding all_below
loop-j-preserved c = (omega arith, rw add-one (cc))
