-- Worked examples of writing: the one spelling, and where names and ranges are tested. Each is broken by one of this crate's must-fail edits.
-- Assumes nothing.
use mathlib.Core.Path.{◌≡◌, refl}
use mathlib.Core.List.{[], ◌∷◌, ◌++◌, map}
use mathlib.Core.Option.{none, some}
use lib.ListN.{replicate}
use Rattle.format.specs.Answer.{refusal}
use Rattle.xml.specs.Write.{level_text, context_text, step_text, member_text, exclusion_text, rule_text, rules_text, rule_text_fault}
use Rattle.xml.proofs.Pieces.{opened, said, list, level, range, privilege, step, unset, roles, privileges, rule, policy}

-- ---- the spelling

-- a name for mark 1, `*` for mark 2, `!` for mark 3
pub levels-written : map (level_text list) (level 1 1 7 ∷ level 2 2 0 ∷ level 2 3 0 ∷ []) ≡ map said ("branch=york" ∷ "period=*" ∷ "period=!" ∷ [])
unfolding opened
levels-written = refl

-- "no other white space": none behind a comma; a context of depth 0 is empty
pub contexts-written :
    map (λ ls. context_text list (rule ls unset unset [])) ([] ∷ (level 1 1 7 ∷ level 2 2 0 ∷ level 2 3 0 ∷ []) ∷ [])
    ≡ map said ("" ∷ "branch=york,period=*,period=!" ∷ [])
unfolding opened
contexts-written = refl

-- "attributes in section 3's order with one space before each"; a step that is not set is not written
pub steps-written : map (step_text list "LastStep") (step 5 3 ∷ unset ∷ []) ≡ map said ("<LastStep operation='count' targetURI='till'/>" ∷ "" ∷ [])
unfolding opened
steps-written = refl

-- a role, with `type="role"`; an operation
pub members-written :
    (member_text list 1 (privilege 2 0) ∷ member_text list 2 (privilege 6 3) ∷ [])
    ≡ map said ("<Role type='role' value='auditor'/>" ∷ "<Operation value='audit' target='till'/>" ∷ [])
unfolding opened
members-written = refl

-- "m as one digit", and every member, repeated ones too
pub exclusions-written :
    map (exclusion_text list) (privileges 2 (privilege 5 3 ∷ privilege 5 3 ∷ []) ∷ roles 8 (1 ∷ []) ∷ [])
    ≡ map said
    ("<MMEP ForbiddenCardinality='2'><Operation value='count' target='till'/><Operation value='count' target='till'/></MMEP>"
    ∷ "<MMER ForbiddenCardinality='8'><Role type='role' value='teller'/></MMER>"
    ∷ [])
unfolding opened
exclusions-written = refl

-- first step, last step, exclusions in their order
pub rules-written :
    rule_text list (rule (level 1 3 0 ∷ []) (step 5 3) (step 6 4) (roles 3 (2 ∷ []) ∷ privileges 2 [] ∷ []))
    ≡ said "<MSoDPolicy BusinessContext='branch=!'><FirstStep operation='count' targetURI='till'/><LastStep operation='audit' targetURI='audit'/>"
    ++ said "<MMER ForbiddenCardinality='3'><Role type='role' value='auditor'/></MMER><MMEP ForbiddenCardinality='2'></MMEP></MSoDPolicy>"
unfolding opened
rules-written = refl

-- no rule, two in their order
pub sets-written :
    map (λ rs. rules_text list (policy rs)) ([] ∷ (rule (level 1 2 0 ∷ []) unset unset [] ∷ rule [] unset unset [] ∷ []) ∷ [])
    ≡ map said
    ("<MSoDPolicySet></MSoDPolicySet>"
    ∷ "<MSoDPolicySet><MSoDPolicy BusinessContext='branch=*'></MSoDPolicy><MSoDPolicy BusinessContext=''></MSoDPolicy></MSoDPolicySet>"
    ∷ [])
unfolding opened
sets-written = refl

-- ---- names and ranges

-- "42 for a .. number not listed": nothing, and a rule all of whose numbers are listed; a type, a value, a first step's operation, a last step's target, a
-- role, an operation, a target, each listed in another kind
pub numbers-unlisted :
    map (map (rule_text_fault list))
    ((rule [] unset unset []
    ∷ rule (level 1 1 7 ∷ level 2 2 0 ∷ []) (step 5 3) (step 6 4) (roles 2 (1 ∷ 33 ∷ []) ∷ privileges 2 (privilege 5 4 ∷ []) ∷ [])
    ∷ [])
    ∷ (rule (level 7 2 0 ∷ []) unset unset []
    ∷ rule (level 1 1 1 ∷ []) unset unset []
    ∷ rule [] (step 3 3) unset []
    ∷ rule [] unset (step 5 5) []
    ∷ rule [] unset unset (roles 2 (1 ∷ 3 ∷ []) ∷ [])
    ∷ rule [] unset unset (privileges 2 (privilege 5 3 ∷ []) ∷ privileges 2 (privilege 4 3 ∷ []) ∷ [])
    ∷ rule [] unset unset (privileges 2 (privilege 5 6 ∷ []) ∷ [])
    ∷ [])
    ∷ [])
    ≡ replicate 2 none ∷ replicate 7 (some (refusal 42 0 0)) ∷ []
unfolding opened
numbers-unlisted = refl

-- "43 for what .. is a range": its type is looked up, its two values are not; names go first, those of a member and of another level too
pub ranges-written :
    map (map (rule_text_fault list))
    ((rule (range 1 7 7 ∷ []) unset unset [] ∷ rule (level 1 1 7 ∷ range 2 100 199 ∷ []) unset unset [] ∷ [])
    ∷ (rule (range 9 7 7 ∷ []) unset unset []
    ∷ rule (range 1 7 7 ∷ level 1 1 8 ∷ []) unset unset []
    ∷ rule (range 1 7 7 ∷ []) unset unset (roles 2 (3 ∷ []) ∷ [])
    ∷ [])
    ∷ [])
    ≡ replicate 2 (some (refusal 43 0 0)) ∷ replicate 3 (some (refusal 42 0 0)) ∷ []
unfolding opened
ranges-written = refl
