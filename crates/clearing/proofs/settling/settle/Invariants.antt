use Prim.Native.Nat.{◌*◌, min}
use Rattle.clearing.specs.Cleared.{left_of}
use Rattle.clearing.specs.Settling.{Settling}
use Rattle.clearing.proofs.settling.settle.Given as goal

-- the records of the blocks that were passed are settled
abbrev pub invariant-loop-k : goal.invariant-loop-k
invariant-loop-k l = Settling (left_of l.ending l.q) l.initial.table (min l.n (15 * l.k)) l.table l.settled.held l.settled.changed
