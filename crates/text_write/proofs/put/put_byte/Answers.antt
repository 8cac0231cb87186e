use mathlib.Core.Path.{sym}
use lib.Seq.{set_out}
use Rattle.text_write.proofs.put.put_byte.Goals as goal

pub returns-else-at-output : goal.returns-else-at-output
returns-else-at-output c = let a = c.args in sym (set_out a.output.now a.at a.b c.if-at-output.false)
