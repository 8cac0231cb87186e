use native.Mathlib.Omega.{arith}
use mathlib.Core.Path.{refl}
use Rattle.reader.specs.Table.{rest}
use Rattle.reader.specs.Parts.{Told}
use Rattle.reader.proofs.Computed.{computed}
use Rattle.reader.proofs.Rests.{rest-step, rest-cardinality, rest_plain}
use Rattle.reader.proofs.tag.rest.Goals as goal

-- the pairs of attributes are told apart by their first bytes
step-told : Told 17 18
unfolding computed
step-told = record { first = omega arith; second = omega arith; first-shows = refl; second-shows = refl; differ = λ e. absurd (omega arith) }

role-told : Told 21 22
unfolding computed
role-told = record { first = omega arith; second = omega arith; first-shows = refl; second-shows = refl; differ = λ e. absurd (omega arith) }

operation-told : Told 22 23
unfolding computed
operation-told = record { first = omega arith; second = omega arith; first-shows = refl; second-shows = refl; differ = λ e. absurd (omega arith) }

pub returns-in-2 : goal.returns-in-2
unfolding rest
returns-in-2 c = rw c.in-2.is c.context_rest.ensures

pub leaf_rest-requires-in-4 : goal.leaf_rest-requires-in-4
leaf_rest-requires-in-4 c = (c.requires.0, step-told)

pub returns-in-4 : goal.returns-in-4
unfolding computed
returns-in-4 c = rw (rest-step c.args.c (λ h. omega arith)) c.leaf_rest-in-4.ensures

pub returns-in-6 : goal.returns-in-6
returns-in-6 c = rw (rest-cardinality c.args.c (λ h. omega arith)) c.cardinality_rest.ensures

pub leaf_rest-requires : goal.leaf_rest-requires
leaf_rest-requires c = (c.requires.0, role-told)

pub returns-in-10 : goal.returns-in-10
unfolding rest computed
returns-in-10 c = rw c.in-10.is c.leaf_rest.ensures

pub leaf_rest-requires-in-11 : goal.leaf_rest-requires-in-11
leaf_rest-requires-in-11 c = (c.requires.0, operation-told)

pub returns-in-11 : goal.returns-in-11
unfolding rest computed
returns-in-11 c = rw c.in-11.is c.leaf_rest-in-11.ensures

pub word_after-requires : goal.word_after-requires
unfolding computed
word_after-requires c = (c.requires.0, (omega arith, refl))

pub returns-in_default : goal.returns-in_default
unfolding computed
returns-in_default c = rw
    (rest_plain c.args.c c.requires.1 (λ h. grind arith) (λ h. grind arith) (λ h. grind arith) (λ h. grind arith) (λ h. grind arith) (λ h. grind arith) (λ h. grind arith))
    c.word_after.ensures
