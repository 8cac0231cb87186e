use Rattle.std.proofs.Common.{refl}
use Rattle.rule_tests.specs.Bounds.{reached}
use Rattle.rule_tests.proofs.bounds.reaches.Goals as goal

pub returns : goal.returns
unfolding reached
returns c = refl
