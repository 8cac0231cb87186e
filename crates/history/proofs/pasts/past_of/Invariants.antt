use lib.ListN.{length}
use Rattle.history.proofs.Turns.{Counted}
use Rattle.history.proofs.pasts.past_of.Given as goal

abbrev pub invariant-loop-start : goal.invariant-loop-start
invariant-loop-start l = Counted l.each l.q l.i l.table l.found (length l.initial.past) l.start-index l.count l.past
