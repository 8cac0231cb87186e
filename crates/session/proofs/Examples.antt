-- Worked examples of the definitions that the contract is made of.
-- Assumes nothing.
use mathlib.Core.Path.{◌≡◌, refl}
use mathlib.Core.List.{[], ◌∷◌, flatten}
use Rattle.format.specs.Answer.{grant, refuse, refusal}
use Rattle.register.specs.Calls.{deciding, closing}
use Rattle.session.specs.Session.{call_of, cut, four_numbers, written}

-- five bytes cut by 2, 0, 2, 4 and 1, for decisions but for the second and the third: the fourth call gets the byte that is left, the fifth none
pieces :
    cut (0 ∷ 1 ∷ 9 ∷ 0 ∷ 0 ∷ []) (2 ∷ 0 ∷ 2 ∷ 4 ∷ 1 ∷ []) (1 ∷ 2 ∷ 3 ∷ 4 ∷ 5 ∷ [])
    ≡ deciding (1 ∷ 2 ∷ []) ∷ closing [] ∷ closing (3 ∷ 4 ∷ []) ∷ deciding (5 ∷ []) ∷ deciding [] ∷ []
unfolding call_of cut
pieces = refl

-- a grant that is recorded, removes none and leaves 3, then 33 by rule 2, exclusion 1
numbers : written (grant 1 0 3 ∷ refuse (refusal 33 2 1) ∷ []) ≡ 0 ∷ 1 ∷ 0 ∷ 3 ∷ 33 ∷ 2 ∷ 1 ∷ 0 ∷ []
unfolding written four_numbers flatten
numbers = refl
