use Prim.Native.Nat.{◌≤◌}
use mathlib.Core.Path.{◌≡◌}
use lib.ListN.{length}
use Rattle.xml.specs.Tags.{squeezed}
use Rattle.tags.specs.Cut.{span, laid}
use Rattle.tags.proofs.cut.squeeze.Given as goal

abbrev pub invariant-loop-i : goal.invariant-loop-i
invariant-loop-i l =
    (l.from ≤ l.i) × (l.i ≤ l.to) × (l.n ≤ l.i)
    × (l.n ≡ length (squeezed (span l.text l.from l.i))) × (l.buffer ≡ laid (squeezed (span l.text l.from l.i)) l.initial.buffer)
