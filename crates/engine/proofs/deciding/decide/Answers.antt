use Rattle.engine.proofs.deciding.decide.Goals as goal

pub returns : goal.returns
returns c = c.in_ok-counted.ensures.0
