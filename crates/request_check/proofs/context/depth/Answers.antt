use Prim.Native.Nat.{ℕ}
use lib.ListN.{get_or}
use Rattle.word_laws.proofs.Bytes.{Byte}
use Rattle.request_check.proofs.RequestWords.{depth-words}
use Rattle.request_check.proofs.context.depth.Goals.{After-shared_slice_known-1}
use Rattle.request_check.proofs.context.depth.Goals as goal

pub returns : goal.returns
returns c =
    let known = (goal.at.returns c).After-shared_slice_known-1 in
    let a = c.args in
    let bytes : (i : ℕ) → Byte (get_or a.s.now i 0) = λ i. (known.shared_slice_known-1.given i).fits in
    cc (depth-words a.s.now bytes a.at)
