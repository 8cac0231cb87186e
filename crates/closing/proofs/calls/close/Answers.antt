use Rattle.closing.proofs.calls.close.Goals as goal

pub returns : goal.returns
returns c = c.in_ok-counted.ensures.0
