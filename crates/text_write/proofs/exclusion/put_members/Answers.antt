use native.Mathlib.Omega.{arith}
use mathlib.Core.Path.{refl, ◌∙◌}
use Rattle.text_write.specs.Pieces.{most_pair_bytes, most_members_bytes, members_text, members_lost}
use Rattle.text_write.proofs.Laying.{put_row-start, put_row-more, put_row-done}
use Rattle.text_write.proofs.exclusion.put_members.Goals as goal

pub loop-i-init : goal.loop-i-init
loop-i-init c = (omega arith, (refl, put_row-start most_pair_bytes _ _ _ _))

pub loop-i-preserved : goal.loop-i-preserved
loop-i-preserved c =
    let l = c.loop-i in
    (omega arith, (c.put_member-member.auto.output ∙ l.invariant.1.0, rw c.and-named.ensures (put_row-more most_pair_bytes _ _ _ _ _ _ l.i l.invariant.1.1 (rw c.read-p.ensures at c.put_member-member.ensures))))

pub returns : goal.returns
unfolding members_text members_lost
returns c =
    let l = c.loop-i in
    put_row-done most_pair_bytes _ _ _ _ _ l.i c.args.n most_members_bytes l.invariant.1.1 (omega arith) (omega arith)
