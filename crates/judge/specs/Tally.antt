-- "3. .. Kind 1: how many member roles appear among all their active roles. Kind 2: each different member counts min(times listed, times done),
-- summed. At m or more: 32 for kind 1, 33 for kind 2."
-- Assumes nothing.
use Rattle.std.specs.Prelude.{ℕ, min, Bool, cond, ◌&&◌, List, [], ◌∷◌, ◌++◌, length, eqb, leb}
use Rattle.words.specs.Lists.{keep, any_of, any_below, sum_below}
use Rattle.format.specs.Request.{Request, user, operation, target, has_role}
use Rattle.format.specs.Rule.{Exclusion, Privilege, same_privilege}

-- "One user number is one person."
unfoldable pub same_user : ℕ → Request → Bool
same_user u q = eqb (user q) u

-- the request does the privilege's operation on its target
unfoldable pub does : Privilege → Request → Bool
does p q = eqb (operation q) p.operation && eqb (target q) p.target

-- a request counts for member i: its role is among the active ones (kind 1), or it is what the request does (kind 2)
unfoldable pub counts_for : Exclusion → ℕ → Request → Bool
counts_for x i q = cond (eqb x.kind 1) (has_role (x.member i).operation q) (does (x.member i) q)

-- "Kind 1: how many member roles appear among all their active roles." No role is a member twice.
unfoldable pub role_tally : Exclusion → List Request → ℕ
role_tally x qs = sum_below x.n (λ i. cond (any_of (counts_for x i) qs) 1 0)

-- how often member i is listed among the members, and how often it was done
unfoldable pub times_listed : Exclusion → ℕ → ℕ
times_listed x i = sum_below x.n (λ j. cond (same_privilege (x.member j) (x.member i)) 1 0)

unfoldable pub times_done : Exclusion → ℕ → List Request → ℕ
times_done x i qs = length (keep (counts_for x i) qs)

-- "each different member": a member that repeats an earlier one is not counted again
unfoldable pub repeats : Exclusion → ℕ → Bool
repeats x i = any_below i (λ j. same_privilege (x.member j) (x.member i))

-- "Kind 2: each different member counts min(times listed, times done), summed."
unfoldable pub privilege_tally : Exclusion → List Request → ℕ
privilege_tally x qs =
    sum_below x.n (λ i. cond (repeats x i) 0 (min (times_listed x i) (times_done x i qs)))

unfoldable pub tally : Exclusion → List Request → ℕ
tally x qs = cond (eqb x.kind 1) (role_tally x qs) (privilege_tally x qs)

-- "At m or more"
unfoldable pub reached : Exclusion → List Request → Bool
reached x qs = leb x.m (tally x qs)

-- "32 for kind 1, 33 for kind 2"
unfoldable pub exclusion_number : Exclusion → ℕ
exclusion_number x = cond (eqb x.kind 1) 32 33

-- "over the same user's records .. plus this request", of a rule's past in that run place
unfoldable pub counted : Request → List Request → List Request
counted q past = keep (same_user (user q)) past ++ (q ∷ [])
