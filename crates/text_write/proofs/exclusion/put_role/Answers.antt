use native.Mathlib.Omega.{arith}
use mathlib.Core.Path.{refl}
use Rattle.forms.specs.Form.{ascii}
use Rattle.text_write.proofs.Laying.{and_then, told}
use Rattle.text_write.proofs.exclusion.put_role.Goals as goal

pub returns : goal.returns
unfolding ascii
returns c =
    let name = rw c.code.ensures at c.put_name-name.ensures.puts in
    record { lays = told (and_then (and_then c.put-first.ensures name.lays) c.put.ensures) refl (omega arith); named = name.named }
