use native.Mathlib.Omega.{arith}
use Rattle.sums.specs.Code.{sums_of}
use Rattle.table_write.proofs.Sealing.{check-put}
use Rattle.table_write.proofs.write.put_check.Goals as goal

pub returns : goal.returns
returns c =
    check-put c.args.block.now (sums_of c.sum_words-sum.result) (omega arith) c.sum_words-sum.ensures c.put_sums.ensures
