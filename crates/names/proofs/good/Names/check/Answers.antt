use mathlib.Core.Path.{sym, ◌∙◌}
use Rattle.words.specs.First.{unless}
use Rattle.xml.specs.Names.{names_fault}
use Rattle.names.proofs.good.Names.check.Goals as goal

pub returns-then-not-good_names-clause-fault : goal.returns-then-not-good_names-clause-fault
unfolding names_fault unless
returns-then-not-good_names-clause-fault c = rw (sym c.good_names.ensures ∙ c.if-not-good_names.true)

pub returns-clause-fault : goal.returns-clause-fault
unfolding names_fault unless
returns-clause-fault c = rw (sym c.good_names.ensures ∙ c.if-not-good_names.false)

pub invariant_of-result : goal.invariant_of-result
invariant_of-result c = record { good = sym c.good_names.ensures ∙ c.if-not-good_names.false; bytes = λ i. (c.type_inv.list i).fits }
