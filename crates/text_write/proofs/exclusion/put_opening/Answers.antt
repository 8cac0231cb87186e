use native.Mathlib.Omega.{arith}
use Rattle.forms.specs.Form.{ascii}
use Rattle.text_write.proofs.Laying.{and_then, told}
use Rattle.text_write.proofs.exclusion.put_opening.Goals as goal

pub returns : goal.returns
unfolding ascii
returns c =
    told (and_then (and_then c.put-first.ensures c.put-second.ensures) c.put.ensures) (rw c.by_kind.ensures.0) (omega arith)
