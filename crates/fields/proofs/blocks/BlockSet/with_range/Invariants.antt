use Prim.Native.Nat.{ℕ, ◌≤◌}
use mathlib.Core.Path.{◌≡◌}
use mathlib.Core.Bool.{◌&&◌, ◌||◌}
use lib.Dec.{leb, ltb}
use Rattle.fields.specs.Code.{has_block}
use Rattle.fields.proofs.blocks.BlockSet.with_range.Given as goal

abbrev pub invariant-loop-k : goal.invariant-loop-k
invariant-loop-k l =
    (l.from ≤ l.k) × ((l.k ≤ l.to) × ((i : ℕ) → has_block l.set i ≡ ((leb l.from i && ltb i l.k) || has_block l.initial.set i)))
