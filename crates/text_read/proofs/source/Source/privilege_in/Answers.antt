use mathlib.Core.Path.{refl}
use Rattle.std.proofs.lemmas.Result.{err_from_is_err_and}
use Rattle.words.specs.First.{◌or_else◌}
use Rattle.xml.specs.Read.{privilege_fault, privilege_of}
use Rattle.text_read.proofs.source.Source.privilege_in.Goals as goal

pub returns-in_err-number_in-clause-fault : goal.returns-in_err-number_in-clause-fault
unfolding privilege_fault ◌or_else◌
returns-in_err-number_in-clause-fault c =
    let p = err_from_is_err_and c.from_residual.result c.from_residual.ensures.1 in
    rw (p.1, p.2, ← c.in_err-number_in.ensures.fault) refl

pub returns-in_err-number_in-2-clause-fault : goal.returns-in_err-number_in-2-clause-fault
unfolding privilege_fault ◌or_else◌
returns-in_err-number_in-2-clause-fault c =
    let r = c.from_residual-in_err-number_in-2 in
    let p = err_from_is_err_and r.result r.ensures.1 in
    rw (p.1, p.2, ← c.in_ok-number_in.ensures.fault) c.in_err-number_in-2.ensures.fault

pub returns-clause-fault : goal.returns-clause-fault
unfolding privilege_fault ◌or_else◌
returns-clause-fault c = rw (← c.in_ok-number_in.ensures.fault, ← c.in_ok-number_in-2.ensures.fault) refl

pub returns-clause-privilege : goal.returns-clause-privilege
unfolding privilege_of
returns-clause-privilege c = rw (c.in_ok-number_in.ensures.number, c.in_ok-number_in-2.ensures.number) refl
