use Rattle.text_write.proofs.Turns.{Turn}
use Rattle.text_write.proofs.text.put_rules.Given as goal

abbrev pub invariant-loop-k : goal.invariant-loop-k
invariant-loop-k l = Turn l.names.list.now l.policy.image.now l.initial.output l.initial.at l.policy.rules l.k l.output l.at
