use native.Mathlib.Omega.{arith}
use mathlib.Core.Path.{◌∙◌}
use Rattle.tags.proofs.TagPieces.{tag-said}
use Rattle.tags.proofs.tag.tag_of.Goals as goal

pub returns : goal.returns
returns c =
    let t = c.args.text.now in
    let said =
    tag-said t c.args.to c.requires.1 c.args.from c.until-quote.result
    c.next-one.result c.next-between.result c.next-two.result
    c.until-quote.ensures.0 c.next-one.ensures c.next-between.ensures c.next-two.ensures in
    (c.said.ensures.0 t ∙ rw c.row_at.ensures said, c.said.ensures.1 t (omega arith, omega arith) (omega arith, omega arith))
