use Prim.Native.Nat.{◌*◌, ◌≤◌}
use mathlib.Core.Path.{◌≡◌}
use Rattle.words.specs.Lists.{same_list}
use Rattle.words.specs.Bytes.{part}
use Rattle.table_write.proofs.places.same_words.Given as goal

abbrev pub invariant-loop-i : goal.invariant-loop-i
invariant-loop-i l = (l.i ≤ l.n) × (l.same ≡ same_list (part l.s l.at (4 * l.i)) (part l.other l.from (4 * l.i)))
