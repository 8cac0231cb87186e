-- Parts of an exclusion's check that a function of the code computes.
-- Assumes nothing.
use Rattle.std.specs.Prelude.{ℕ, ◌+◌, Bool, not, ◌&&◌, ◌||◌, List, eqb, leb}
use Rattle.std.proofs.Math.Option.{Option}
use Rattle.words.specs.Lists.{all_below}
use Rattle.words.specs.First.{unless, first}
use Rattle.format.specs.Answer.{Refusal, refusal}
use Rattle.format.specs.Layout.{highest_role, most_exclusions, most_members}
use Rattle.format.specs.Rule.{Exclusion, rule_at, good_roles, good_privileges, good_exclusion_at}

-- member i of an exclusion of roles has a role that no member before it has
abbrev pub new_role : Exclusion → ℕ → Bool
new_role x i = all_below i (λ j. not (eqb (x.member j).operation (x.member i).operation))

-- member i of an exclusion of roles
abbrev pub good_role : Exclusion → ℕ → Bool
good_role x i =
    leb 1 (x.member i).operation
    && leb (x.member i).operation highest_role
    && eqb (x.member i).target 0
    && new_role x i

-- the members of an exclusion, by its kind
abbrev pub good_members : Exclusion → Bool
good_members x = (eqb x.kind 1 && good_roles x) || (eqb x.kind 2 && good_privileges x)

-- "2 <= m <= n <= 8", and the zero byte beside them
abbrev pub good_size : Exclusion → Bool
good_size x = eqb x.pad 0 && leb 2 x.m && leb x.m x.n && leb x.n most_members

-- exclusion e of rule block k, and the first bad one
abbrev pub exclusion_fault : ℕ → List ℕ → ℕ → Option Refusal
exclusion_fault k b e = unless (good_exclusion_at (rule_at b) e) (refusal 5 k (e + 1))

abbrev pub exclusions_fault : ℕ → List ℕ → Option Refusal
exclusions_fault k b = first (exclusion_fault k b) 0 most_exclusions
