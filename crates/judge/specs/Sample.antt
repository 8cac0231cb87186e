-- The sample session of document 01's "Trial run", in bytes: the policy's image, the fifteen requests, the fifteen answers.
-- "Types: 1 depot, 2 job; every target is 1. Operations: 1 adjust, 2 check, 4 close, 5 begin count, 6 end count."
-- Assumes nothing.
use Rattle.std.specs.Prelude.{ℕ, List, [], ◌∷◌, ◌++◌}
use Rattle.words.specs.Bytes.{bytes2, bytes4, zeros}
use Rattle.format.specs.Block.{sealed}
use Rattle.format.specs.Request.{Request}
use Rattle.format.specs.Answer.{Answer, grant, refuse, refusal}

-- ---- the pieces of an image, in the order of their fields

-- a block's kind, number and total
head : ℕ → ℕ → ℕ → List ℕ
head kind number total = bytes4 kind ++ bytes2 number ++ bytes2 total

-- a rule level: type, mark, value
level : ℕ → ℕ → ℕ → List ℕ
level type mark value = bytes2 type ++ (mark ∷ 0 ∷ []) ++ bytes2 value ++ zeros 2

-- a step or a member of kind 2: an operation, on target 1; and a member of kind 1
privilege : ℕ → List ℕ
privilege operation = bytes2 operation ++ bytes2 1

role : ℕ → List ℕ
role k = bytes2 k ++ zeros 2

-- a permission entry: a role, an operation, target 1
permission : ℕ → ℕ → List ℕ
permission k operation = bytes2 k ++ bytes2 operation ++ bytes2 1 ++ zeros 2

-- ---- the policy

-- "Rule 1: depot every, job each; last step 4; exclusion 1 privileges m 2 of 1, 2, 2; exclusion 2 roles m 2 of 1, 2."
rule1 : List ℕ
rule1 =
    sealed
    (head 1 0 3
    ++ (2 ∷ 2 ∷ 0 ∷ 1 ∷ [])
    ++ zeros 4
    ++ level 1 2 0
    ++ level 2 3 0
    ++ zeros 16
    ++ zeros 4
    ++ privilege 4
    ++ (2 ∷ 2 ∷ 3 ∷ 0 ∷ [])
    ++ privilege 1
    ++ privilege 2
    ++ privilege 2
    ++ zeros 20
    ++ (1 ∷ 2 ∷ 2 ∷ 0 ∷ [])
    ++ role 1
    ++ role 2
    ++ zeros 24
    ++ zeros 376)

-- "Rule 2: depot each; first 5, last 6; roles m 2 of 1, 3."
rule2 : List ℕ
rule2 =
    sealed
    (head 1 1 3
    ++ (1 ∷ 1 ∷ 1 ∷ 1 ∷ [])
    ++ zeros 4
    ++ level 1 3 0
    ++ zeros 24
    ++ privilege 5
    ++ privilege 6
    ++ (1 ∷ 2 ∷ 2 ∷ 0 ∷ [])
    ++ role 1
    ++ role 3
    ++ zeros 24
    ++ zeros 412)

-- "Permissions: role 1: 1; role 2: 2 and 4; role 3: 5."
permissions : List ℕ
permissions =
    sealed
    (head 3 2 3
    ++ bytes2 4
    ++ zeros 6
    ++ permission 1 1
    ++ permission 2 2
    ++ permission 2 4
    ++ permission 3 5
    ++ zeros 456)

unfoldable pub sample_policy : List ℕ
unfolding head level privilege role permission rule1 rule2 permissions
sample_policy = rule1 ++ rule2 ++ permissions

-- ---- the requests, "as user {roles} operation (depot, job)"

-- roles as a number: {1} is 1, {2} is 2, {1,2} is 3, {3} is 4
request : ℕ → ℕ → ℕ → List ℕ → Request
request user roles operation context = bytes4 user ++ bytes4 roles ++ bytes2 operation ++ bytes2 1 ++ context

depot : ℕ → List ℕ
depot d = bytes2 1 ++ bytes2 d ++ zeros 12

job : ℕ → ℕ → List ℕ
job d j = bytes2 1 ++ bytes2 d ++ bytes2 2 ++ bytes2 j ++ zeros 8

unfoldable pub sample_requests : List Request
unfolding request depot job
sample_requests =
    request 7 1 1 (job 5 90)
    ∷ request 7 2 2 (job 5 90)
    ∷ request 7 2 2 (job 6 90)
    ∷ request 7 2 2 (job 5 91)
    ∷ request 8 2 2 (job 5 90)
    ∷ request 8 2 2 (job 5 90)
    ∷ request 8 1 2 (job 5 90)
    ∷ request 9 3 1 (job 5 90)
    ∷ request 8 2 4 (job 5 90)
    ∷ request 7 2 2 (job 5 90)
    ∷ request 7 2 2 (depot 5)
    ∷ request 10 4 5 (depot 5)
    ∷ request 10 1 1 (job 5 92)
    ∷ request 11 1 1 (job 5 92)
    ∷ request 12 2 4 (job 5 92)
    ∷ []

-- ---- the answers, as the paper prints them

unfoldable pub sample_answers : List Answer
sample_answers =
    grant 1 0 1
    ∷ refuse (refusal 33 1 1)
    ∷ refuse (refusal 33 1 1)
    ∷ grant 1 0 2
    ∷ grant 1 0 3
    ∷ refuse (refusal 33 1 1)
    ∷ refuse (refusal 31 0 0)
    ∷ refuse (refusal 32 1 2)
    ∷ grant 0 2 1
    ∷ grant 1 0 2
    ∷ grant 0 0 2
    ∷ grant 1 0 3
    ∷ refuse (refusal 32 2 1)
    ∷ grant 1 0 4
    ∷ grant 1 0 5
    ∷ []
