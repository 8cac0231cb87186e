use Prim.Native.Nat.{suc, ◌-◌, ◌≤◌}
use Rattle.text_read.proofs.LevelTurns.{Taken}
use Rattle.text_read.proofs.source.Source.read_levels.Given as goal

abbrev pub invariant-loop-at : goal.invariant-loop-at
invariant-loop-at l = (l.depth ≤ l.at) × Taken l.self.names.list.now l.self.text.now l.context l.initial.d l.d l.named l.depth l.at

abbrev pub decreases-loop-at : goal.decreases-loop-at
decreases-loop-at l = suc l.context.to - l.at
