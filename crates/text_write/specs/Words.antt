-- The fixed pieces of the spelling.
-- Assumes nothing.
use Rattle.std.specs.Prelude.{ℕ, List}
use Rattle.forms.specs.Form.{ascii}

abbrev pub set_start : List ℕ
set_start = ascii "<MSoDPolicySet>"

abbrev pub set_end : List ℕ
set_end = ascii "</MSoDPolicySet>"

abbrev pub rule_start : List ℕ
rule_start = ascii "<MSoDPolicy BusinessContext=\""

abbrev pub tag_end : List ℕ
tag_end = ascii "\">"

abbrev pub rule_end : List ℕ
rule_end = ascii "</MSoDPolicy>"

abbrev pub first_start : List ℕ
first_start = ascii "<FirstStep operation=\""

abbrev pub last_start : List ℕ
last_start = ascii "<LastStep operation=\""

abbrev pub target_uri : List ℕ
target_uri = ascii "\" targetURI=\""

abbrev pub element_end : List ℕ
element_end = ascii "\"/>"

abbrev pub roles_start : List ℕ
roles_start = ascii "<MMER ForbiddenCardinality=\""

abbrev pub privileges_start : List ℕ
privileges_start = ascii "<MMEP ForbiddenCardinality=\""

abbrev pub roles_end : List ℕ
roles_end = ascii "</MMER>"

abbrev pub privileges_end : List ℕ
privileges_end = ascii "</MMEP>"

abbrev pub role_start : List ℕ
role_start = ascii "<Role type=\"role\" value=\""

abbrev pub privilege_start : List ℕ
privilege_start = ascii "<Operation value=\""

abbrev pub privilege_target : List ℕ
privilege_target = ascii "\" target=\""

abbrev pub comma : List ℕ
comma = ascii ","

abbrev pub equals_sign : List ℕ
equals_sign = ascii "="

abbrev pub every_sign : List ℕ
every_sign = ascii "*"

abbrev pub each_sign : List ℕ
each_sign = ascii "!"

-- the most bytes that a piece has
abbrev pub most_word_bytes : ℕ
most_word_bytes = 31
