use mathlib.Core.Path.{◌≡◌, refl, ◌∙◌}
use native.Mathlib.Omega.{arith}
use Rattle.numbering.proofs.Image.{anew-start, anew-more}
use Rattle.numbering.proofs.anew.put_blocks.Goals as goal

pub loop-i-init : goal.loop-i-init
loop-i-init c = let a = c.args in (omega arith, refl, anew-start a.total a.at a.from.now a.first a.output.now)

pub loop-i-preserved : goal.loop-i-preserved
loop-i-preserved c =
    let l = c.loop-i in
    let a = c.args in (
      omega arith,
      c.put_block.auto.output ∙ l.invariant.1,
      anew-more a.total a.at a.from.now a.first a.output.now l.i (omega arith) (omega arith) l.invariant.2 c.put_block.ensures,
    )

pub shape_of-output : goal.shape_of-output
shape_of-output c = c.loop-i.invariant.1

pub returns : goal.returns
returns c = let e : c.loop-i.i ≡ c.args.n = omega arith in rw (← e) c.loop-i.invariant.2
