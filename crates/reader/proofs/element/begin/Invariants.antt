use Prim.Native.Nat.{◌≤◌}
use mathlib.Core.Path.{◌≡◌}
use mathlib.Core.Bool.{true}
use lib.ListN.{drop}
use Rattle.reader.specs.Table.{elements}
use Rattle.reader.specs.Begin.{longest}
use Rattle.reader.proofs.Beginnings.{none-whole}
use Rattle.reader.proofs.element.begin.Given as goal

abbrev pub invariant-loop-c : goal.invariant-loop-c
invariant-loop-c l = (l.c ≤ elements) × ((l.best ≡ longest l.s (drop l.at l.text) l.c) × (none-whole l.s (drop l.at l.text) l.c ≡ true))
