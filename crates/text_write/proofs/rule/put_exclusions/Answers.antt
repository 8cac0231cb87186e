use native.Mathlib.Omega.{arith}
use mathlib.Core.Path.{refl, ◌∙◌}
use Rattle.words.specs.Bytes.{byte_at}
use Rattle.format.specs.Layout.{exclusions_at}
use Rattle.format.specs.Rule.{rule_at}
use Rattle.text_write.specs.Lost.{exclusions_lost}
use Rattle.text_write.specs.Pieces.{most_exclusion_bytes, most_exclusions_bytes, exclusions_text}
use Rattle.text_write.proofs.Laying.{put_row-start, put_row-more, put_row-done}
use Rattle.text_write.proofs.rule.put_exclusions.Goals as goal

pub loop-e-init : goal.loop-e-init
loop-e-init c = (omega arith, (refl, put_row-start most_exclusion_bytes _ _ _ _))

pub loop-e-preserved : goal.loop-e-preserved
loop-e-preserved c =
    let l = c.loop-e in
    (omega arith, (c.put_exclusion-exclusion.auto.output ∙ l.invariant.1.0, rw c.and-named.ensures (put_row-more most_exclusion_bytes _ _ _ _ _ _ l.e l.invariant.1.1 c.put_exclusion-exclusion.ensures)))

pub returns : goal.returns
unfolding exclusions_text exclusions_lost rule_at
returns c =
    let l = c.loop-e in
    put_row-done most_exclusion_bytes _ _ _ _ _ l.e (byte_at c.args.b.now exclusions_at) most_exclusions_bytes l.invariant.1.1 (omega arith) (omega (arith, c.requires.writable.exclusions))
