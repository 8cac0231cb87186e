use Rattle.tally.specs.Code.{TallyOf, deed_of}
use Rattle.format.specs.Request.{Request, operation}
use Rattle.format.specs.Rule.{exclusion_at}
use lib.ListN.{length, get_or, take}
use mathlib.Core.List.{List, [], map}
use mathlib.Core.Path.{◌≡◌}
use Prim.Native.Nat.{ℕ, ◌<◌}
use Rattle.tally.proofs.tallies.reaches.Given as goal

abbrev pub invariant-loop-deed : goal.invariant-loop-deed
invariant-loop-deed l =
    (qs : List Request) → l.past ≡ map deed_of qs → ((i : ℕ) → i < length qs → operation (get_or qs i []) < 65536) → TallyOf (exclusion_at l.b l.e) (take l.deed-index qs) l.tally
