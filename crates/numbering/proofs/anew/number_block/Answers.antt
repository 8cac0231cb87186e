use native.Mathlib.Omega.{arith}
use Rattle.numbering.proofs.Body.{numbered-put}
use Rattle.numbering.proofs.anew.number_block.Goals as goal

pub returns : goal.returns
returns c =
    let a = c.args in
    numbered-put a.block.now a.total a.k (omega arith) c.put_u16.ensures c.put_u16-2.ensures c.put_check.ensures
