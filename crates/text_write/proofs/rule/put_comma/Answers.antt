use native.Mathlib.Omega.{arith}
use Rattle.forms.specs.Form.{ascii}
use Rattle.text_write.proofs.Texts.{comma-first, comma-later}
use Rattle.text_write.proofs.Laying.{lays-nothing, told}
use Rattle.text_write.proofs.rule.put_comma.Goals as goal

pub returns-then-i-eq0 : goal.returns-then-i-eq0
returns-then-i-eq0 c = let a = c.args in told (lays-nothing a.output.now a.at) (comma-first a.i c.if-i-eq0.true) (omega arith)

pub returns : goal.returns
unfolding ascii
returns c = told c.put.ensures (comma-later c.args.i c.if-i-eq0.false) (omega arith)
