use Prim.Native.Nat.{ℕ, ◌+◌, ◌*◌}
use mathlib.Core.Path.{ap}
use mathlib.Core.Bool.{◌&&◌}
use lib.ListN.{get_or}
use lib.Dec.{eqb, ltb}
use Rattle.format.specs.Rule.{rule_at}
use Rattle.format.specs.Policy.{policy_of}
use Rattle.matching.specs.Masks.{is_each}
use Rattle.matching.proofs.masks.is_each.Goals as goal

pub returns : goal.returns
unfolding is_each policy_of rule_at
returns c =
    rw (← c.rule-b.ensures)
    (ap (λ (depth : ℕ). ltb c.args.l depth && eqb (get_or c.rule-b.result.now (18 + 8 * c.args.l) 0) 3) c.from.ensures)
