use mathlib.Core.Path.{◌≡◌}
use lib.Dec.{eqb}
use lib.ListN.{take}
use Rattle.std.specs.List.{count_by}
use Rattle.tally.specs.declared.counting.Counted.{Counted}
use Rattle.tally.proofs.counting.times_listed.Given as goal

abbrev pub invariant-loop-other : goal.invariant-loop-other
invariant-loop-other l = l.count ≡ count_by (λ (m : Counted). eqb m.privilege.0 l.privilege.0) (take l.other-index l.members)
