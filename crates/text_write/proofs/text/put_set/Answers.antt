use native.Mathlib.Omega.{arith}
use Rattle.forms.specs.Form.{ascii}
use Rattle.text_write.proofs.Whole.{set-whole}
use Rattle.text_write.proofs.text.put_set.Goals as goal

pub returns : goal.returns
unfolding ascii
returns c =
    let x = c.in_ok-second.ensures in
    (x.0, set-whole _ _ c.put-first.ensures x.1 c.put.ensures (omega arith))
