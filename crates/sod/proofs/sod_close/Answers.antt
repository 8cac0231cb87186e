use Rattle.sod.proofs.Left.{left_is}
use Rattle.sod.proofs.sod_close.Goals as goal

pub returns : goal.returns
returns c = left_is _ _ _ _ c.from.ensures c.close.ensures
