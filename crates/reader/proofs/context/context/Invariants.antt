use Prim.Native.Nat.{◌-◌, ◌≤◌}
use lib.ListN.{length}
use Rattle.xml.specs.Grammar.{◌▸◌, level}
use Rattle.reader.specs.Parts.{after_level}
use Rattle.reader.proofs.Contexts.{Context}
use Rattle.reader.proofs.context.context.Given as goal

abbrev pub invariant-loop-end : goal.invariant-loop-end
invariant-loop-end l = (l.at ≤ l.p) × ((l.p ≤ length l.text) × Context l.text l.at (level ▸ after_level) l.p)

abbrev pub decreases-loop-end : goal.decreases-loop-end
decreases-loop-end l = length l.text - l.p
