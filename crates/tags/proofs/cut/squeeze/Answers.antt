use native.Mathlib.Omega.{arith}
use mathlib.Core.Path.{◌∙◌}
use Rattle.tags.proofs.Squeezing.{squeeze-start, squeeze-more}
use Rattle.tags.proofs.cut.squeeze.Goals as goal

pub loop-i-init : goal.loop-i-init
loop-i-init c =
    let a = c.args in
    let start = squeeze-start a.text.now a.buffer.now a.from in
    (omega arith, omega arith, omega arith, start.0, start.1)

pub loop-i-preserved : goal.loop-i-preserved
loop-i-preserved c =
    let a = c.args in
    let inv = c.loop-i.invariant in
    let step =
    squeeze-more a.text.now a.buffer.now a.from c.loop-i.i (omega arith) (omega arith) c.loop-i.n c.loop-i.buffer inv.3 inv.4 in
    (omega arith, omega arith, omega arith, c.add-n.ensures.0 ∙ step.0, c.add-n.ensures.1 ∙ step.1)
