use Prim.Native.Nat.{◌*◌, ◌≤◌}
use mathlib.Core.Path.{◌≡◌}
use lib.ListN.{length}
use Rattle.words.specs.Bytes.{part}
use Rattle.table_write.specs.Writing.{over}
use Rattle.table_write.proofs.places.copy_words.Given as goal

abbrev pub invariant-loop-i : goal.invariant-loop-i
invariant-loop-i l = (l.i ≤ l.n) × (length l.s ≡ length l.initial.s) × (l.s ≡ over l.initial.s l.at (4 * l.i) (part l.from 0 (4 * l.i)))
