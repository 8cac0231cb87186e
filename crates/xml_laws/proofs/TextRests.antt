-- What a tag has behind the word that it begins with, as writing spells it, is of the form that the table names, whatever follows.
-- Assumes nothing.
use Prim.Native.Nat.{ℕ}
use native.Mathlib.Omega.{arith}
use mathlib.Core.Path.{◌≡◌, refl, ap, ◌∙◌}
use mathlib.Core.Bool.{true}
use mathlib.Core.List.{List, [], ◌∷◌, ◌++◌}
use Rattle.words.specs.Lists.{any_of}
use Rattle.word_laws.proofs.Every.{empty, more}
use Rattle.forms.specs.Form.{ascii, digit, of_name, name_byte, is_of, Form, may_end, joined, bytes, is_nothing, either, left, lefts}
use Rattle.forms.proofs.Laws.{either-nothing}
use Rattle.xml.specs.Grammar.{◌▸◌, text, gap, name, attribute, spaced, both}
use Rattle.reader.specs.Table.{plain_rest, step_rest, cardinality_rest, rest}
use Rattle.xml_laws.proofs.TextPieces.{quoted, closed}
use Rattle.xml_laws.proofs.TextNames.{SomeOf, byte-apart, lefts-some}

-- the text is of the form, and what follows it is met by what follows the form
abbrev pub Takes : Form → List ℕ → Type 0
Takes f t = (k : Form) → lefts (f ▸ k) t ≡ k

opened : Unit {0}
unfolding ascii name_byte is_of any_of may_end joined is_nothing either left lefts bytes rest quoted
opened = tt

-- a tag without attributes
pub plain-rest : Takes plain_rest (closed [] [])
unfolding opened
plain-rest k = either-nothing k

-- a name up to the double quote is taken
quoted-name : (k : Form) (w u : List ℕ) → SomeOf of_name w → lefts (name ▸ text "\"" ▸ k) (w ++ 34 ∷ u) ≡ lefts k u
unfolding opened
quoted-name k w u h = lefts-some of_name (text "\"" ▸ k) 34 u w (byte-apart of_name 34 k refl) refl h ∙ ap (λ f. lefts f u) (either-nothing k)

-- a step's two attributes
pub step-rest : (o t : List ℕ) → SomeOf of_name o → SomeOf of_name t
    → Takes step_rest (closed (ascii " operation=") (o ∷ ascii " targetURI=" ∷ t ∷ ascii "/" ∷ []))
unfolding opened
step-rest o t ho ht k =
    quoted-name (spaced (attribute "targetURI" name) ▸ gap ▸ text "/>" ▸ k) o (closed (ascii " targetURI=") (t ∷ ascii "/" ∷ [])) ho
    ∙ quoted-name (gap ▸ text "/>" ▸ k) t (ascii "/>") ht ∙ either-nothing k

-- a role's
pub role-rest : (t v : List ℕ) → SomeOf of_name t → SomeOf of_name v
    → Takes (both (attribute "type" name) (attribute "value" name) ▸ gap ▸ text "/>")
    (closed (ascii " type=") (t ∷ ascii " value=" ∷ v ∷ ascii "/" ∷ []))
unfolding opened
role-rest t v ht hv k =
    quoted-name (spaced (attribute "value" name) ▸ gap ▸ text "/>" ▸ k) t (closed (ascii " value=") (v ∷ ascii "/" ∷ [])) ht
    ∙ quoted-name (gap ▸ text "/>" ▸ k) v (ascii "/>") hv ∙ either-nothing k

-- an operation's
pub operation-rest : (o t : List ℕ) → SomeOf of_name o → SomeOf of_name t
    → Takes (both (attribute "value" name) (attribute "target" name) ▸ gap ▸ text "/>")
    (closed (ascii " value=") (o ∷ ascii " target=" ∷ t ∷ ascii "/" ∷ []))
unfolding opened
operation-rest o t ho ht k =
    quoted-name (spaced (attribute "target" name) ▸ gap ▸ text "/>" ▸ k) o (closed (ascii " target=") (t ∷ ascii "/" ∷ [])) ho
    ∙ quoted-name (gap ▸ text "/>" ▸ k) t (ascii "/>") ht ∙ either-nothing k

-- an exclusion's, with one digit
pub cardinality-rest : (d : ℕ) → is_of digit d ≡ true → Takes cardinality_rest (closed (ascii " ForbiddenCardinality=") ((d ∷ []) ∷ [] ∷ []))
unfolding opened
cardinality-rest d e k =
    lefts-some digit (text "\"" ▸ gap ▸ text ">" ▸ k) 34 (ascii ">") (d ∷ []) (byte-apart digit 34 (gap ▸ text ">" ▸ k) refl) refl
    (omega arith, more e empty)
    ∙ either-nothing k
