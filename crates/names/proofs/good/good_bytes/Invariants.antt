use Prim.Native.Nat.{◌≤◌}
use mathlib.Core.Path.{◌≡◌}
use Rattle.words.specs.Lists.{all_below}
use Rattle.names.specs.Parts.{good_byte_at}
use Rattle.names.proofs.good.good_bytes.Given as goal

abbrev pub invariant-loop-j : goal.invariant-loop-j
invariant-loop-j l = (l.j ≤ 60) × (l.good ≡ all_below l.j (good_byte_at l.list l.i))
