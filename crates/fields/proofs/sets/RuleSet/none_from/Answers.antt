use Prim.Native.Nat.{ℕ}
use native.Mathlib.Omega.{arith}
use mathlib.Core.Path.{ap}
use lib.Dec.{ltb}
use Rattle.fields.proofs.BlockSets.{power}
use Rattle.fields.proofs.sets.RuleSet.none_from.Goals as goal

pub returns : goal.returns
returns c = let a = c.args in ap (λ (n : ℕ). ltb a.self.0 n) (power a.i (omega arith))
