use Prim.Native.Nat.{◌-◌, ◌<◌}
use mathlib.Core.Path.{◌≡◌}
use lib.ListN.{length}
use Rattle.xml.specs.Grammar.{set}
use Rattle.reader.specs.Table.{states, ahead}
use Rattle.reader.specs.Scan.{Goes}
use Rattle.reader.proofs.reached.reach_of.Given as goal

abbrev pub invariant-loop-state : goal.invariant-loop-state
invariant-loop-state l = (l.reader.text.now ≡ l.text) × ((l.state < states) × Goes set l.text 0 (ahead l.state) l.reader.at)

abbrev pub decreases-loop-state : goal.decreases-loop-state
decreases-loop-state l = length l.text - l.reader.at
