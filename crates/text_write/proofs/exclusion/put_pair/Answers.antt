use native.Mathlib.Omega.{arith}
use mathlib.Core.Path.{refl}
use Rattle.forms.specs.Form.{ascii}
use Rattle.text_write.specs.Pieces.{pair_text}
use Rattle.text_write.proofs.Laying.{and_then, told, refused-both}
use Rattle.text_write.proofs.exclusion.put_pair.Goals as goal

pub returns : goal.returns
unfolding pair_text ascii
returns c =
    let operation = rw c.code.ensures at c.put_name-operation.ensures.puts in
    let target = rw c.code-2.ensures at c.put_name-target.ensures.puts in
    record {
      lays = told (and_then (and_then (and_then (and_then c.put-first.ensures operation.lays) c.put-third.ensures) target.lays) c.put.ensures) refl (omega arith);
      named = refused-both _ _ operation.named target.named c.and.ensures;
    }
