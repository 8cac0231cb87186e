-- "Which element may stand inside which is fixed by a constant table": parent by child, with the next reader state.
-- Assumes nothing.
use Rattle.std.specs.Prelude.{ℕ, Bool, cond, List, [], ◌∷◌, get_or, eqb, ltb}
use Prim.Native.String.{String}
use Rattle.forms.specs.Form.{Form, nothing, blank, ◌or◌, many}
use Rattle.xml.specs.Grammar.{◌▸◌, text, gap, name, number, context, attribute, spaced, both, step, role, operation, exclusion, policy}

-- ---- reader states: what a text may have before the next tag

-- 0 before the set; 1 in the set; in a rule 2 before its steps, 3 behind the first step, 4 among its exclusions; 5 in an MMER, 6 in an MMEP; 7 behind the set
abbrev pub states : ℕ
states = 8

-- an end tag
abbrev pub end_of : String → Form
end_of n = text "</" ▸ text n ▸ gap ▸ text ">" ▸ gap

-- what follows when a rule, or an exclusion, has ended
abbrev pub after_rule : Form
after_rule = many policy ▸ end_of "MSoDPolicySet"

abbrev pub after_exclusion : Form
after_exclusion = many (exclusion "MMER" role or exclusion "MMEP" operation) ▸ end_of "MSoDPolicy" ▸ after_rule

-- the form of all that may follow in a state, behind white space
unfoldable pub inner : ℕ → Form
inner s =
    get_or
    ((text "<MSoDPolicySet" ▸ gap ▸ text ">" ▸ gap ▸ after_rule)
    ∷ after_rule
    ∷ ((blank or step "FirstStep") ▸ (blank or step "LastStep") ▸ after_exclusion)
    ∷ ((blank or step "LastStep") ▸ after_exclusion)
    ∷ after_exclusion
    ∷ (many role ▸ end_of "MMER" ▸ after_exclusion)
    ∷ (many operation ▸ end_of "MMEP" ▸ after_exclusion)
    ∷ [])
    s nothing

-- with the white space; behind the set there is nothing else
unfoldable pub ahead : ℕ → Form
ahead s = cond (eqb s 7) gap (gap ▸ inner s)

-- ---- tags

abbrev pub elements : ℕ
elements = 12

abbrev pub plain_rest : Form
plain_rest = gap ▸ text ">"

abbrev pub step_rest : Form
step_rest = both (attribute "operation" name) (attribute "targetURI" name) ▸ gap ▸ text "/>"

abbrev pub cardinality_rest : Form
cardinality_rest = spaced (attribute "ForbiddenCardinality" number) ▸ gap ▸ text ">"

abbrev pub context_rest : Form
context_rest = spaced (attribute "BusinessContext" context) ▸ gap ▸ text ">"

-- how a tag goes on behind its word, up to its end
unfoldable pub rest : ℕ → Form
rest c =
    get_or
    (plain_rest
    ∷ plain_rest
    ∷ context_rest
    ∷ plain_rest
    ∷ step_rest
    ∷ step_rest
    ∷ cardinality_rest
    ∷ plain_rest
    ∷ cardinality_rest
    ∷ plain_rest
    ∷ (both (attribute "type" name) (attribute "value" name) ▸ gap ▸ text "/>")
    ∷ (both (attribute "value" name) (attribute "target" name) ▸ gap ▸ text "/>")
    ∷ [])
    c nothing

-- ---- the table

-- a row for each state; for each tag, in the order of Words.antt, the next state, 8 where it may not stand
unfoldable pub table : List (List ℕ)
table =
    (1 ∷ 8 ∷ 8 ∷ 8 ∷ 8 ∷ 8 ∷ 8 ∷ 8 ∷ 8 ∷ 8 ∷ 8 ∷ 8 ∷ [])
    ∷ (8 ∷ 7 ∷ 2 ∷ 8 ∷ 8 ∷ 8 ∷ 8 ∷ 8 ∷ 8 ∷ 8 ∷ 8 ∷ 8 ∷ [])
    ∷ (8 ∷ 8 ∷ 8 ∷ 1 ∷ 3 ∷ 4 ∷ 5 ∷ 8 ∷ 6 ∷ 8 ∷ 8 ∷ 8 ∷ [])
    ∷ (8 ∷ 8 ∷ 8 ∷ 1 ∷ 8 ∷ 4 ∷ 5 ∷ 8 ∷ 6 ∷ 8 ∷ 8 ∷ 8 ∷ [])
    ∷ (8 ∷ 8 ∷ 8 ∷ 1 ∷ 8 ∷ 8 ∷ 5 ∷ 8 ∷ 6 ∷ 8 ∷ 8 ∷ 8 ∷ [])
    ∷ (8 ∷ 8 ∷ 8 ∷ 8 ∷ 8 ∷ 8 ∷ 8 ∷ 4 ∷ 8 ∷ 8 ∷ 5 ∷ 8 ∷ [])
    ∷ (8 ∷ 8 ∷ 8 ∷ 8 ∷ 8 ∷ 8 ∷ 8 ∷ 8 ∷ 8 ∷ 4 ∷ 8 ∷ 6 ∷ [])
    ∷ (8 ∷ 8 ∷ 8 ∷ 8 ∷ 8 ∷ 8 ∷ 8 ∷ 8 ∷ 8 ∷ 8 ∷ 8 ∷ 8 ∷ [])
    ∷ []

unfoldable pub next : ℕ → ℕ → ℕ
next s c = get_or (get_or table s []) c states

-- a tag may stand in a state
unfoldable pub may_stand : ℕ → ℕ → Bool
may_stand s c = ltb (next s c) states
