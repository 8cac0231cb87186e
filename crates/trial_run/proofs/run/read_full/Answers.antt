use Rattle.std.proofs.Common.{rules, length, ◌-◌}
use Rattle.trial_run.proofs.Reading.{consumes_parts}
use Rattle.trial_run.proofs.run.read_full.Goals as goal

pub loop-done-preserved : goal.loop-done-preserved
loop-done-preserved g c =
    let from = c.loop-done.done in
    (search rules, search rules, consumes_parts _ _ _ from (length c.loop-done.buffer - from) c.in_ok-n.n c.loop-done.buffer c.read.new.buf c.loop-done.invariant.1 c.in_ok-n.ensures.bound.0 c.loop-done.invariant.2 c.in_ok-n.ensures.bytes.0)
