use Rattle.tally.proofs.Taken.{Counting}
use Rattle.tally.proofs.tallies.Tally.add.Given as goal

abbrev pub invariant-loop-member : goal.invariant-loop-member
invariant-loop-member l = Counting l.fn.self.members l.member-items l.deed.privilege.0 l.member-index
