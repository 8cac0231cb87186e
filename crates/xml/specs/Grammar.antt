-- "Policies from the published XML": the form of the text, W5 of document 02 over section 3 of source document 001. "Comments, declarations and entities
-- are not of the form": nothing here has a place for them.
-- Assumes nothing.
use Prim.Native.String.{String}
use Rattle.forms.specs.Form.{ascii, space, digit, of_name, Form, blank, one, ◌or◌, many, joined, bytes}

infixr 25 ◌▸◌
-- the one and then the other
abbrev pub ◌▸◌ : Form → Form → Form
f ▸ g = joined f g

-- ---- words

abbrev pub text : String → Form
text s = bytes (ascii s)

-- "free white space"
abbrev pub gap : Form
gap = many (one space)

-- "A name is one or more of the list's bytes, a cardinality one or more digits"
abbrev pub name : Form
name = one of_name ▸ many (one of_name)

abbrev pub number : Form
number = one digit ▸ many (one digit)

-- "A value of * .., ! .., a name"; "free white space .. round a context's commas and equals signs"; levels "may be any in number, none too"
abbrev pub level : Form
level = name ▸ gap ▸ text "=" ▸ gap ▸ (name or text "*" or text "!")

abbrev pub context : Form
context = blank or (level ▸ many (gap ▸ text "," ▸ gap ▸ level))

-- ---- tags

-- "in double quotes, with free white space where XML has it"
abbrev pub attribute : String → Form → Form
attribute n v = text n ▸ gap ▸ text "=" ▸ gap ▸ text "\"" ▸ v ▸ text "\""

-- XML has white space in front of each attribute, at least one byte
abbrev pub spaced : Form → Form
spaced f = one space ▸ gap ▸ f

-- "Attributes stand in any order"
abbrev pub both : Form → Form → Form
both a b = spaced ((a ▸ spaced b) or (b ▸ spaced a))

-- "steps and members end in />"
abbrev pub leaf : String → Form → Form
leaf n attributes = text "<" ▸ text n ▸ attributes ▸ gap ▸ text "/>" ▸ gap

-- "all others in an end tag"
abbrev pub element : String → Form → Form → Form
element n attributes inside =
    text "<" ▸ text n ▸ attributes ▸ gap ▸ text ">" ▸ gap ▸ inside ▸ text "</" ▸ text n ▸ gap ▸ text ">" ▸ gap

-- ---- elements

abbrev pub step : String → Form
step n = leaf n (both (attribute "operation" name) (attribute "targetURI" name))

abbrev pub role : Form
role = leaf "Role" (both (attribute "type" name) (attribute "value" name))

abbrev pub operation : Form
operation = leaf "Operation" (both (attribute "value" name) (attribute "target" name))

-- "exclusions and members may be any in number, none too"
abbrev pub exclusion : String → Form → Form
exclusion n member = element n (spaced (attribute "ForbiddenCardinality" number)) (many member)

-- "A first, then a last step, each optional, stand before the exclusions, these in any mix"
abbrev pub policy : Form
policy =
    element "MSoDPolicy" (spaced (attribute "BusinessContext" context))
    ((blank or step "FirstStep")
    ▸ (blank or step "LastStep")
    ▸ many (exclusion "MMER" role or exclusion "MMEP" operation))

-- "rules .. may be any in number, none too"
abbrev pub set : Form
set = gap ▸ element "MSoDPolicySet" blank (many policy)
