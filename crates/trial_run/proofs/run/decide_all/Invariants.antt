-- The lines written so far; the ordinal grows to a bound, and the table keeps its length.
use Rattle.std.proofs.Common.{◌-◌, ◌≡◌, length}
use Rattle.trial_run.specs.Text.{Decided}
use Rattle.trial_run.proofs.Deciding.{Decides}
use Rattle.trial_run.proofs.run.decide_all.Given as goal

abbrev pub invariant-loop-ordinal : goal.invariant-loop-ordinal
invariant-loop-ordinal g l =
    (length l.table ≡ length l.initial.table)
    × Decides
    (g.R.Read.remaining l.initial.input)
    (g.R.Read.remaining l.input)
    (g.W.Write.contents l.initial.out)
    (g.W.Write.contents l.out)
    l.policy
    l.initial.table
    l.table
    l.ordinal
    × Decided l.policy l.initial.table l.table

abbrev pub decreases-loop-ordinal : goal.decreases-loop-ordinal
decreases-loop-ordinal g l = 18446744073709551615 - l.ordinal
