use native.Mathlib.Omega.{arith}
use Rattle.std.proofs.lemmas.Result.{err_from_is_err_and}
use Rattle.text_write.proofs.Whole.{write-refused, write-short, write-whole}
use Rattle.text_write.proofs.text.write_text.Goals as goal

pub returns-in_err-n : goal.returns-in_err-n
returns-in_err-n c =
    let p = err_from_is_err_and c.from_residual.result c.from_residual.ensures.1 in
    rw (p.1, p.2) (write-refused _ _ _ _ c.in_err-n.ensures)

pub returns-then-output-n : goal.returns-then-output-n
returns-then-output-n c = write-short _ _ _ _ _ _ _ c.in_ok-n.ensures c.if-output-n.true

pub returns : goal.returns
returns c = write-whole _ _ _ _ _ _ _ c.in_ok-n.ensures (omega arith) c.put_set-2.result _ c.put_set-2.ensures
