-- Worked examples of the two calls: which number goes first, and the output. Each is broken by one of this
-- crate's must-fail edits.
-- Assumes nothing.
use Prim.Native.Nat.{ℕ}
use Prim.Native.String.{String}
use mathlib.Core.Path.{◌≡◌, refl}
use mathlib.Core.List.{List, [], ◌∷◌, ◌++◌, map}
use mathlib.Core.Option.{Option, none, some}
use lib.ListN.{replicate}
use Rattle.format.specs.Answer.{Refusal, refusal, Answer, accept, refuse, Outcome}
use Rattle.format.specs.Rule.{Rule}
use Rattle.format.specs.Policy.{policy_of, policy_fault}
use Rattle.xml_calls.specs.Calls.{resulting, read_fault, read_image, read_rules, write_fault, write_rules}
use Rattle.xml.proofs.Pieces.{policies, opened, said, entry, range, unset, roles, rule, policy, permissions, plain_rule}

-- what these examples compute with, beside what the pieces bring
calls : Unit {0}
unfolding resulting read_fault read_image read_rules write_fault write_rules
calls = tt

-- ---- which number goes first

-- a short list, and the fault of a text with it, a second image of one permission block and so much room
abbrev few : List ℕ
few = entry 5 3 "till" ++ entry 3 1 "teller" ++ entry 3 2 "auditor"

abbrev read : ℕ → String → Option Refusal
read room s = read_fault (said s) few (permissions 0 1 1) room

-- that image is a policy
permissions-pass : policy_fault (permissions 0 1 1) ≡ none
unfolding calls opened policies policy_fault
permissions-pass = refl

-- the second image's numbers, then the list's, then the text's
pub images-then-lists :
    map (λ s. read_fault (said "a") (1 ∷ []) s 0) ([] ∷ permissions 0 1 1 ∷ []) ≡ some (refusal 1 0 0) ∷ some (refusal 42 0 0) ∷ []
unfolding calls opened policies policy_fault
images-then-lists = refl

-- "going through the text": a fault before the byte that 41 names goes first; one further on, or in the tag that has that byte or stops early, does not
pub faults-then-41 :
    map (read 1024)
    ("<MSoDPolicySet><MSoDPolicy BusinessContext=''></MSoDPolicy>a"
    ∷ "<MSoDPolicySet><MSoDPolicy BusinessContext=''><LastStep operation='a' targetURI='till'/><LastStep"
    ∷ "<MSoDPolicySet>a<MSoDPolicy BusinessContext=''></MSoDPolicy></MSoDPolicySet>"
    ∷ "<MSoDPolicySet><MSoDPolicy BusinessContext=''><LastStep operation='a' targetURI='till'/ >"
    ∷ "<MSoDPolicySet><MSoDPolicy BusinessContext=''><LastStep operation='a' targetURI='till'/"
    ∷ "<MSoDPolicySet><MSoDPolicy BusinessContext='a=!'>"
    ∷ [])
    ≡ some (refusal 43 0 0)
    ∷ some (refusal 42 0 0)
    ∷ some (refusal 41 15 0)
    ∷ some (refusal 41 87 0)
    ∷ some (refusal 41 87 0)
    ∷ some (refusal 41 49 0)
    ∷ []
unfolding calls opened policies
faults-then-41 = rw permissions-pass refl

-- a set of one rule, roles m 2 of 1, 2
abbrev plain : List ℕ
plain =
    said "<MSoDPolicySet><MSoDPolicy BusinessContext=''><MMER ForbiddenCardinality='2'>"
    ++ said "<Role type='role' value='teller'/><Role type='role' value='auditor'/></MMER></MSoDPolicy></MSoDPolicySet>"

-- "exceeds the lent output", "the output at the set's end": before text behind it, after all that stands inside the set
pub room-then-41 :
    (map (λ room. read_fault (plain ++ said "a") few (permissions 0 1 1) room) (1024 ∷ 1023 ∷ [])
    ++ (read_fault (said "<MSoDPolicySet>a</MSoDPolicySet>") few (permissions 0 1 1) 0 ∷ []))
    ≡ some (refusal 41 182 0) ∷ some (refusal 43 0 0) ∷ some (refusal 41 15 0) ∷ []
unfolding calls opened policies
room-then-41 = rw permissions-pass refl

-- ---- the output

-- so many bytes 9
abbrev nines : ℕ → List ℕ
nines n = replicate n 9

abbrev outcome : Answer → List ℕ → Outcome (List ℕ)
outcome a s = record { answer = a; state = s }

-- that rule's block and a permission block are a policy
abbrev small : List ℕ
small = plain_rule 0 2 ++ permissions 1 2 1

small-passes : policy_fault small ≡ none
unfolding calls opened policies policy_fault
small-passes = refl

-- reading: the length of its result, and bytes past it are unaltered; in an output that is a byte too short, "a refusal alters nothing lent". The second
-- image's block is numbered anew
pub read-into :
    map (λ n. read_rules plain few (permissions 0 1 1) (nines n)) (1027 ∷ 1023 ∷ [])
    ≡ outcome (accept 1024) (small ++ nines 3)
    ∷ outcome (refuse (refusal 43 0 0)) (nines 1023)
    ∷ []
unfolding calls opened policies policy_fault
read-into = refl

-- writing: the same
pub written-into :
    map (λ n. write_rules small few (nines n)) (185 ∷ 182 ∷ 181 ∷ [])
    ≡ outcome (accept 182) (plain ++ nines 3) ∷ outcome (accept 182) plain ∷ outcome (refuse (refusal 43 0 0)) (nines 181) ∷ []
unfolding calls opened policies
written-into = rw small-passes refl

-- ---- which number goes first in writing

-- the policy's numbers, then the list's, then what the rules and the output give
pub policies-then-lists : map (λ s. write_fault s (1 ∷ []) 0) ([] ∷ permissions 0 1 1 ∷ []) ≡ some (refusal 1 0 0) ∷ some (refusal 42 0 0) ∷ []
unfolding calls opened policies policy_fault
policies-then-lists = refl

-- a rule with a range, and one with a role that is not listed
abbrev ranged : Rule
ranged = rule (range 1 7 9 ∷ []) unset unset (roles 2 (1 ∷ 2 ∷ []) ∷ [])

abbrev unlisted : Rule
unlisted = rule [] unset unset (roles 2 (1 ∷ 4 ∷ []) ∷ [])

-- rule by rule, and the output last: of any image that is a policy of two such rules, in this order and in the other
pub rule-by-rule :
    (s : List ℕ) → policy_fault s ≡ none
    → (policy_of s ≡ policy (ranged ∷ unlisted ∷ []) → write_fault s (entry 1 1 "branch" ++ few) 0 ≡ some (refusal 43 0 0))
    × (policy_of s ≡ policy (unlisted ∷ ranged ∷ []) → write_fault s (entry 1 1 "branch" ++ few) 0 ≡ some (refusal 42 0 0))
unfolding calls opened
rule-by-rule s h = ((λ e. rw (h, e) refl), λ e. rw (h, e) refl)
