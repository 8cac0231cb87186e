use Rattle.exclusion_check.proofs.exclusion.good_role.Goals as goal

pub returns : goal.returns
returns c = cc
