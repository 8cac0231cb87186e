use Prim.Native.Nat.{◌-◌}
use Rattle.text_read.proofs.TurnsText.{Run}
use Rattle.text_read.proofs.sheet.Sheet.read_tags.Given as goal

abbrev pub invariant-loop-at : goal.invariant-loop-at
invariant-loop-at l = Run l.source.names.list.now l.source.text.now l.end l.source.permissions l.source.room l.at l.self

abbrev pub decreases-loop-at : goal.decreases-loop-at
decreases-loop-at l = l.end - l.at
