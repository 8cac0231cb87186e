-- Parts of tags that scanners take.
-- Assumes nothing.
use Rattle.std.specs.Prelude.{ℕ, ◌<◌, ◌≡◌, false, get_or}
use Prim.Native.String.{String}
use Rattle.forms.specs.Form.{Kind, space, is_of, Form, one, ◌or◌, many}
use Rattle.xml.specs.Grammar.{◌▸◌, text, gap, name, level, attribute, spaced, both}
use Rattle.reader.specs.Words.{word_count, named, word}

-- an attribute up to its value
abbrev pub opened : String → Form
opened n = text n ▸ gap ▸ text "=" ▸ gap ▸ text "\""

-- one byte of a kind at least
abbrev pub some : Kind → Form
some q = one q ▸ many (one q)

-- two attributes whose values are names, in this order and in any
abbrev pub in_turn : String → String → Form
in_turn m n = attribute m name ▸ spaced (attribute n name)

abbrev pub two : ℕ → ℕ → Form
two m n = both (attribute (named m) name) (attribute (named n) name)

-- two words that the first byte tells apart, from each other and from white space
pub record Told (m n : ℕ) : Type 0 where
  pub first : m < word_count
  pub second : n < word_count
  pub first-shows : is_of space (get_or (word m) 0 0) ≡ false
  pub second-shows : is_of space (get_or (word n) 0 0) ≡ false
  pub differ : get_or (word m) 0 0 ≡ get_or (word n) 0 0 → ⊥

-- a further level of a context; what may follow a level, the closing quote included; a level's value
abbrev pub next_level : Form
next_level = gap ▸ text "," ▸ gap ▸ level

abbrev pub after_level : Form
after_level = many next_level ▸ text "\""

abbrev pub level_value : Form
level_value = name or text "*" or text "!"
