use native.Mathlib.Omega.{arith}
use mathlib.Core.Path.{refl, ap, ◌∙◌}
use lib.Seq.{take_all}
use Rattle.std.proofs.Common.{rules}
use Rattle.text_write.specs.Laid.{laid}
use Rattle.text_write.proofs.Laying.{laid_more}
use Rattle.text_write.proofs.put.put.Goals as goal

pub loop-i-init : goal.loop-i-init
unfolding laid
loop-i-init c = search rules

pub loop-i-preserved : goal.loop-i-preserved
loop-i-preserved c =
    let l = c.loop-i in
    let a = c.args in
    (omega arith, c.put_byte.auto.output ∙ l.invariant.1, laid_more a.output.now a.s.now a.at l.i (omega arith) l.invariant.2 c.put_byte.ensures)

pub returns : goal.returns
returns c =
    let s = c.args.s.now in
    record {
      bytes = c.loop-i.invariant.2 ∙ ap (laid c.args.output.now c.args.at) (take_all c.loop-i.i s (omega arith));
      behind = refl;
      few = omega arith;
    }
