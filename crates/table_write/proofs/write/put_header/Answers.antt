use mathlib.Core.Path.{refl}
use mathlib.Core.List.{◌++◌}
use native.Mathlib.Omega.{arith}
use Rattle.words.specs.Bytes.{zeros}
use Rattle.sums.specs.Code.{sums_of}
use Rattle.format.specs.Block.{sum_bytes}
use Rattle.table_write.specs.Writing.{numbers_image}
use Rattle.table_write.proofs.Over.{joined}
use Rattle.table_write.proofs.write.put_header.Goals as goal

pub returns : goal.returns
returns c =
    let a = c.args in
    let s = a.block.now in
    joined s (numbers_image a.total a.k a.count ++ zeros 6) (sum_bytes (sums_of a.stamp)) 0 16 8
    (joined s (numbers_image a.total a.k a.count) (zeros 6) 0 10 6 c.put_numbers.ensures c.zero_fill.ensures refl (omega arith))
    c.put_sums.ensures refl (omega arith)
