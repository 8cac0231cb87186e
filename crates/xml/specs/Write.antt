-- Writing: "Also write any accepted policy's rules as text, in one fixed spelling: type="role", attributes in section 3's order with one space before each, no
-- other white space, m as one digit."
-- Assumes nothing.
use Rattle.std.specs.Prelude.{ℕ, ◌+◌, cond, not, eqb}
use Prim.Native.String.{String}
use mathlib.Core.List.{List, [], ◌∷◌, ◌++◌, flatten}
use Rattle.std.proofs.Math.Option.{Option, none, some}
use Rattle.words.specs.Lists.{tab, any_below}
use Rattle.words.specs.First.{◌or_else◌, first}
use Rattle.format.specs.Answer.{Refusal}
use Rattle.format.specs.Rule.{Level, is_range, Privilege, Step, is_set, Exclusion, Rule}
use Rattle.format.specs.Policy.{Policy}
use Rattle.forms.specs.Form.{ascii}
use Rattle.xml.specs.Names.{type_names, value_names, role_names, operation_names, target_names, name_of}
use Rattle.xml.specs.Read.{listed, within}

-- ---- the spelling

unfoldable pub or_blank : Option (List ℕ) → List ℕ
or_blank none = []
or_blank (some w) = w

-- the name of a number of a kind
abbrev pub name_text : List ℕ → ℕ → ℕ → List ℕ
name_text l k n = or_blank (name_of l k n)

-- "with one space before each, no other white space"
abbrev pub attribute_text : String → List ℕ → List ℕ
attribute_text n v = ascii " " ++ ascii n ++ ascii "=\"" ++ v ++ ascii "\""

-- a name for mark 1, `*` for mark 2, `!` for mark 3; a range is refused, so how it would be spelled is not asked
unfoldable pub value_text : List ℕ → Level → List ℕ
value_text l x = cond (eqb x.mark 1) (name_text l value_names x.value) (cond (eqb x.mark 2) (ascii "*") (ascii "!"))

unfoldable pub level_text : List ℕ → Level → List ℕ
level_text l x = name_text l type_names x.type ++ ascii "=" ++ value_text l x

-- a comma before every level but the first
unfoldable pub context_text : List ℕ → Rule → List ℕ
context_text l r = flatten (tab (λ i. cond (eqb i 0) [] (ascii ",") ++ level_text l (r.level i)) 0 r.depth)

unfoldable pub step_text : List ℕ → String → Step → List ℕ
step_text l n s =
    cond (is_set s)
    (ascii "<"
    ++ ascii n
    ++ attribute_text "operation" (name_text l operation_names s.privilege.operation)
    ++ attribute_text "targetURI" (name_text l target_names s.privilege.target)
    ++ ascii "/>")
    []

unfoldable pub member_text : List ℕ → ℕ → Privilege → List ℕ
member_text l k p =
    cond (eqb k 1)
    (ascii "<Role" ++ attribute_text "type" (ascii "role") ++ attribute_text "value" (name_text l role_names p.operation) ++ ascii "/>")
    (ascii "<Operation"
    ++ attribute_text "value" (name_text l operation_names p.operation)
    ++ attribute_text "target" (name_text l target_names p.target)
    ++ ascii "/>")

abbrev pub exclusion_name : ℕ → List ℕ
exclusion_name k = cond (eqb k 1) (ascii "MMER") (ascii "MMEP")

-- "m as one digit"
unfoldable pub exclusion_text : List ℕ → Exclusion → List ℕ
exclusion_text l x =
    ascii "<"
    ++ exclusion_name x.kind
    ++ attribute_text "ForbiddenCardinality" ((48 + x.m) ∷ [])
    ++ ascii ">"
    ++ flatten (tab (λ i. member_text l x.kind (x.member i)) 0 x.n)
    ++ ascii "</"
    ++ exclusion_name x.kind
    ++ ascii ">"

unfoldable pub rule_text : List ℕ → Rule → List ℕ
rule_text l r =
    ascii "<MSoDPolicy"
    ++ attribute_text "BusinessContext" (context_text l r)
    ++ ascii ">"
    ++ step_text l "FirstStep" r.first_step
    ++ step_text l "LastStep" r.last_step
    ++ flatten (tab (λ e. exclusion_text l (r.exclusion e)) 0 r.exclusions)
    ++ ascii "</MSoDPolicy>"

unfoldable pub rules_text : List ℕ → Policy → List ℕ
rules_text l p = ascii "<MSoDPolicySet>" ++ flatten (tab (λ k. rule_text l (p.rule k)) 0 p.rules) ++ ascii "</MSoDPolicySet>"

-- ---- faults, "in writing too" where the innermost element ends

unfoldable pub step_text_fault : List ℕ → Step → Option Refusal
step_text_fault l s =
    cond (is_set s)
    (listed (name_of l operation_names s.privilege.operation) or_else listed (name_of l target_names s.privilege.target))
    none

unfoldable pub member_fault : List ℕ → ℕ → Privilege → Option Refusal
member_fault l k p =
    cond (eqb k 1) (listed (name_of l role_names p.operation))
    (listed (name_of l operation_names p.operation) or_else listed (name_of l target_names p.target))

-- a level's type, and its value where it has one by name
unfoldable pub level_names_fault : List ℕ → Level → Option Refusal
level_names_fault l x = listed (name_of l type_names x.type) or_else cond (eqb x.mark 1) (listed (name_of l value_names x.value)) none

-- "43 for what .. is a range", among the limits of the context
unfoldable pub rule_text_fault : List ℕ → Rule → Option Refusal
rule_text_fault l r =
    step_text_fault l r.first_step
    or_else step_text_fault l r.last_step
    or_else first (λ e. let x = r.exclusion e in first (λ i. member_fault l x.kind (x.member i)) 0 x.n) 0 r.exclusions
    or_else first (λ i. level_names_fault l (r.level i)) 0 r.depth
    or_else within (not (any_below r.depth (λ i. is_range (r.level i))))
