use native.Mathlib.Omega.{arith}
use Rattle.sums.specs.Code.{sums_of}
use Rattle.table_write.proofs.SliceBytes.{slice-bytes}
use Rattle.table_write.proofs.Sealing.{block_made}
use Rattle.table_write.proofs.write.seal.Goals as goal

pub returns : goal.returns
returns c =
    let a = c.args in
    block_made a.block.now (slice-bytes a.block.now (λ i. record { fits = c.fits-block i })) (omega arith) (sums_of a.stamp) a.total a.k a.count (omega arith)
    c.put_header.ensures c.zero_fill.ensures c.put_check.ensures
