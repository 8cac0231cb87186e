use Prim.Native.Nat.{◌<◌}
use native.Mathlib.Omega.{arith}
use Rattle.std.proofs.lemmas.Result.{err_from_is_err_and}
use Rattle.text_read.proofs.TurnsText.{context-in, text-ends, text-stops, text-refused, text-more}
use Rattle.text_read.proofs.sheet.Sheet.read_tags.Goals.{Else-close-end}
use Rattle.text_read.proofs.sheet.Sheet.read_tags.Goals as goal

-- a tag ends before the end
more : (c : Else-close-end) → c.until-close.result < c.args.end
more c =
    let other = c.if-close-end.false in
    let most = c.until-close.ensures.2 in
    omega arith

pub returns-then-close-end : goal.returns-then-close-end
returns-then-close-end c =
    let u = c.until-close in text-stops c.loop-at.invariant c.requires.0 u.result u.ensures.0 (omega (arith, c.if-close-end.true))

pub take_tag-requires : goal.take_tag-requires
take_tag-requires c = (c.tag_of-tag.ensures.1, context-in c.loop-at.invariant)

pub returns-in_err-take_tag : goal.returns-in_err-take_tag
returns-in_err-take_tag c =
    let p = err_from_is_err_and c.from_residual.result c.from_residual.ensures.1 in
    let u = c.until-close in
    λ second q.
    rw (p.1, p.2)
    (text-refused c.loop-at.invariant c.requires.0 u.result u.ensures.0 (more (goal.at.returns-in_err-take_tag c).Else-close-end) c.tag_of-tag.ensures.0 _
    c.in_err-take_tag.ensures second q)

pub loop-at-preserved : goal.loop-at-preserved
loop-at-preserved c =
    let u = c.until-close in
    text-more c.loop-at.invariant c.requires.0 u.result u.ensures.0 (more (goal.at.loop-at-preserved c).Else-close-end) c.tag_of-tag.ensures.0
    c.in_ok-take_tag.ensures

pub returns : goal.returns
returns c = text-ends c.loop-at.invariant (omega (arith, c.loop-at-test.false))
