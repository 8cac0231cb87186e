use Rattle.policy_check.proofs.Entry.{entry-parts}
use Rattle.policy_check.proofs.permission.good_permission.Goals as goal

pub returns : goal.returns
returns c = let a = c.args in cc (entry-parts a.b.now a.i)
