-- The words that the reader knows: how tags begin, the signs, the names of attributes.
-- Assumes nothing.
use Rattle.std.specs.Prelude.{ℕ, List, [], ◌∷◌, get_or}
use Prim.Native.String.{String}
use Rattle.forms.specs.Form.{ascii}

-- tags 0 to 11, signs 12 to 16, attributes 17 to 23
unfoldable pub words : List String
words =
    "<MSoDPolicySet"
    ∷ "</MSoDPolicySet"
    ∷ "<MSoDPolicy"
    ∷ "</MSoDPolicy"
    ∷ "<FirstStep"
    ∷ "<LastStep"
    ∷ "<MMER"
    ∷ "</MMER"
    ∷ "<MMEP"
    ∷ "</MMEP"
    ∷ "<Role"
    ∷ "<Operation"
    ∷ ">"
    ∷ "/>"
    ∷ "="
    ∷ "\""
    ∷ ","
    ∷ "operation"
    ∷ "targetURI"
    ∷ "ForbiddenCardinality"
    ∷ "BusinessContext"
    ∷ "type"
    ∷ "value"
    ∷ "target"
    ∷ []

abbrev pub word_count : ℕ
word_count = 24

unfoldable pub named : ℕ → String
named i = get_or words i ""

abbrev pub word : ℕ → List ℕ
word i = ascii (named i)
