use Rattle.sod.proofs.Left.{converted_is}
use Rattle.sod.proofs.sod_write_rules.Goals as goal

pub returns : goal.returns
returns c = converted_is _ _ _ _ c.from.ensures c.write_rules.ensures
