use Rattle.verdict.proofs.AcceptedEntries.{entries_fit}
use Rattle.verdict.proofs.Permissions.{block-entries}
use Rattle.verdict.proofs.permits.permits_at.Goals as goal

pub block_permits-requires : goal.block_permits-requires
block_permits-requires c = let a = c.args in rw c.block.ensures (entries_fit a.policy.now c.requires.accepted a.k c.requires.k_bound)

pub returns : goal.returns
returns c =
    let a = c.args in
    block-entries a.policy.now a.q.now a.k _ _ c.block.ensures c.block_permits.ensures
