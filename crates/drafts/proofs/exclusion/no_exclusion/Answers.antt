use native.Mathlib.Omega.{arith}
use Rattle.drafts.proofs.ExclusionBlock.{begun}
use Rattle.drafts.proofs.exclusion.no_exclusion.Goals as goal

pub returns : goal.returns
returns c = begun 0 0 (omega arith)
