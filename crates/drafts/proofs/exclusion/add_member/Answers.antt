use native.Mathlib.Omega.{arith}
use Rattle.xml.specs.Blocks.{privilege_image}
use Rattle.drafts.proofs.ExclusionBlock.{member-stored, member-counted}
use Rattle.drafts.proofs.exclusion.add_member.Goals as goal

pub returns-then-n : goal.returns-then-n
unfolding privilege_image
returns-then-n c =
    let a = c.args in
    λ s e.
    member-stored s (record { operation = a.operation; target = a.target }) a.x.now e c.counted.result c.counted.ensures
    c.from.result c.from.ensures (omega arith) c.put_pair.ensures

pub returns-else-n : goal.returns-else-n
returns-else-n c =
    let a = c.args in
    λ s e.
    member-counted s (record { operation = a.operation; target = a.target }) a.x.now e c.counted.result c.counted.ensures (omega arith)
