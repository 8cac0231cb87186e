use native.Mathlib.Omega.{arith}
use mathlib.Core.Path.{refl, ◌∙◌}
use Rattle.forms.specs.Form.{ascii}
use Rattle.words.specs.Bytes.{byte_at}
use Rattle.format.specs.Layout.{depth_at}
use Rattle.format.specs.Rule.{rule_at}
use Rattle.xml.specs.Write.{context_text}
use Rattle.text_write.specs.Lost.{context_lost}
use Rattle.text_write.specs.Pieces.{most_level_bytes, most_context_bytes, comma_text}
use Rattle.text_write.proofs.Laying.{put_row-start, put_row-more, put_row-done}
use Rattle.text_write.proofs.rule.put_context.Goals as goal

pub loop-i-init : goal.loop-i-init
loop-i-init c = (omega arith, (refl, put_row-start most_level_bytes _ _ _ _))

pub loop-i-preserved : goal.loop-i-preserved
loop-i-preserved c =
    let l = c.loop-i in
    (omega arith, (c.put_level-level.auto.output ∙ l.invariant.1.0, rw c.and-named.ensures (put_row-more most_level_bytes _ _ _ _ _ _ l.i l.invariant.1.1 c.put_level-level.ensures)))

pub returns : goal.returns
unfolding context_text context_lost comma_text rule_at ascii
returns c =
    let l = c.loop-i in
    put_row-done most_level_bytes _ _ _ _ _ l.i (byte_at c.args.b.now depth_at) most_context_bytes l.invariant.1.1 (omega arith) (omega arith)
