-- Worked examples of kinds of bytes, forms and what is left of them, and of how far a text is good.
-- Each is broken by one of this crate's must-fail edits.
-- Assumes nothing.
use mathlib.Core.Path.{◌≡◌, refl}
use mathlib.Core.Bool.{true, false}
use mathlib.Core.List.{[], ◌∷◌, map}
use Rattle.words.specs.Lists.{any_of}
use Rattle.forms.specs.Form.{ascii, this, space, digit, of_name, name_byte, is_of, Form, nothing, blank, one, ◌then◌, ◌or◌, many}
use Rattle.forms.specs.Form.{may_end, hopeless, joined, bytes, is_nothing, either, left, lefts, is_of_form, reach}
use Rattle.forms.specs.Run.{run, common}

-- what these examples compute with
opened : Unit {0}
unfolding ascii name_byte is_of any_of may_end hopeless joined bytes is_nothing either left lefts is_of_form reach run common
opened = tt

-- ---- bytes

-- the bytes of a text in quotes, and no other
pub text_in-quotes : ascii "<A/>" ≡ 60 ∷ 65 ∷ 47 ∷ 62 ∷ []
unfolding opened
text_in-quotes = refl

-- one byte alone: A is not its neighbours, and not a
pub one_byte : map (is_of (this 65)) (64 ∷ 65 ∷ 66 ∷ 97 ∷ []) ≡ false ∷ true ∷ false ∷ false ∷ []
unfolding opened
one_byte = refl

-- XML's white space is space, tab, carriage return and line feed; vertical tab, form feed and 160 are none
pub white-space : map (is_of space) (32 ∷ 9 ∷ 13 ∷ 10 ∷ 11 ∷ 12 ∷ 160 ∷ []) ≡ true ∷ true ∷ true ∷ true ∷ false ∷ false ∷ false ∷ []
unfolding opened
white-space = refl

-- 0 to 9, and not the bytes beside them
pub digits : map (is_of digit) (47 ∷ 48 ∷ 57 ∷ 58 ∷ []) ≡ false ∷ true ∷ true ∷ false ∷ []
unfolding opened
digits = refl

-- "ASCII bytes 33 to 126 without ..": bytes of a name, 35 the first and 126 the last; bytes that are none, 33 being one of those left out; all left out
pub name-bytes :
    map (λ t. map (is_of of_name) t) ((35 ∷ 39 ∷ 47 ∷ 58 ∷ 65 ∷ 122 ∷ 126 ∷ []) ∷ (32 ∷ 33 ∷ 127 ∷ 160 ∷ []) ∷ ascii "\"&<>=,*!" ∷ [])
    ≡ (true ∷ true ∷ true ∷ true ∷ true ∷ true ∷ true ∷ [])
    ∷ (false ∷ false ∷ false ∷ false ∷ [])
    ∷ (false ∷ false ∷ false ∷ false ∷ false ∷ false ∷ false ∷ false ∷ [])
    ∷ []
unfolding opened
name-bytes = refl

-- ---- forms

-- which forms the empty text is of: both parts must have it
pub may-end :
    map may_end (nothing ∷ blank ∷ one digit ∷ (blank then blank) ∷ (blank then one digit) ∷ (one digit then blank) ∷ [])
    ≡ false ∷ true ∷ false ∷ true ∷ false ∷ false ∷ []
unfolding opened
may-end = refl

-- one of two sides must have it; and "any number, none too"
pub may-end-at-once :
    map may_end ((blank or one digit) ∷ (one digit or blank) ∷ (one digit or one space) ∷ many (one digit) ∷ []) ≡ true ∷ true ∷ false ∷ true ∷ []
unfolding opened
may-end-at-once = refl

-- which forms have no text: a part that has none is enough; any number of what has no text is the empty text
pub no-hope :
    map hopeless (nothing ∷ blank ∷ one digit ∷ (nothing then blank) ∷ (one digit then nothing) ∷ (one digit then blank) ∷ many nothing ∷ [])
    ≡ true ∷ false ∷ false ∷ true ∷ true ∷ false ∷ false ∷ []
unfolding opened
no-hope = refl

-- of two sides both must have none
pub no-hope-on-either-side : map hopeless ((nothing or blank) ∷ (blank or nothing) ∷ (nothing or nothing) ∷ []) ≡ false ∷ false ∷ true ∷ []
unfolding opened
no-hope-on-either-side = refl

-- the one and then the other is nested to the right, without a blank in front; just these bytes, in their order
pub in_order :
    (joined (one digit then one space) (one of_name) ∷ joined blank (one digit) ∷ joined nothing (one digit) ∷ bytes (ascii "<A") ∷ [])
    ≡ (one digit then one space then one of_name) ∷ one digit ∷ nothing ∷ (one (this 60) then one (this 65) then blank) ∷ []
unfolding opened
in_order = refl

-- the one or the other, without the one that is nothing
pub one_side :
    (either nothing (one digit) ∷ either (one digit) nothing ∷ either (one digit) (one space) ∷ either nothing nothing ∷ [])
    ≡ one digit ∷ one digit ∷ (one digit or one space) ∷ nothing ∷ []
unfolding opened
one_side = refl

-- ---- what may come next

-- after 5 (byte 53) or a space, of a digit, a digit and then a space, any number of digits and then a space, and a digit or a byte of a name
pub what-is-left :
    map (λ f. left f 53 ∷ left f 32 ∷ [])
    (one digit ∷ (one digit then one space) ∷ (many (one digit) then one space) ∷ (one digit or one of_name) ∷ [])
    ≡ (blank ∷ nothing ∷ [])
    ∷ (one space ∷ nothing ∷ [])
    ∷ ((many (one digit) then one space) ∷ blank ∷ [])
    ∷ ((blank or blank) ∷ nothing ∷ [])
    ∷ []
unfolding opened
what-is-left = refl

-- n, an equals sign, a digit or more, and an end
abbrev line : Form
line = joined (bytes (ascii "n=")) (joined (one digit) (joined (many (one digit)) (bytes (ascii ";"))))

-- a text that is whole; one that stops early is good to its end; a bad byte has its place, from 0; what stands behind a whole text is bad
pub first-bad-byte : map (λ s. reach line (ascii s)) ("n=12;" ∷ "" ∷ "n=1" ∷ "n=x;" ∷ "m=1;" ∷ "n=;" ∷ "n=1;;" ∷ []) ≡ 5 ∷ 0 ∷ 3 ∷ 2 ∷ 0 ∷ 2 ∷ 4 ∷ []
unfolding opened
first-bad-byte = refl

-- a byte after which no text can be finished is bad
pub dead_end : reach (blank or (one digit then one space then nothing)) (ascii "1 ") ≡ 0
unfolding opened
dead_end = refl

-- only the whole text is of the form
pub whole-text : map (λ s. is_of_form line (ascii s)) ("n=12;" ∷ "" ∷ "n=1" ∷ "n=;" ∷ "n=1;;" ∷ []) ≡ true ∷ false ∷ false ∷ false ∷ false ∷ []
unfolding opened
whole-text = refl

-- ---- how far a text goes in one manner

-- bytes of a kind to the first that is not, or to the end
pub runs : map (λ s. run digit (ascii s)) ("12 3" ∷ "1234" ∷ " 12" ∷ "" ∷ []) ≡ 2 ∷ 4 ∷ 0 ∷ 0 ∷ []
unfolding opened
runs = refl

-- bytes in common with a word to the first that is not the word's, or to the end of the one or the other
pub in-common : map (λ s. common (ascii "Role") (ascii s)) ("Role" ∷ "Rule" ∷ "Ro" ∷ "Roles" ∷ "role" ∷ "" ∷ []) ≡ 4 ∷ 1 ∷ 2 ∷ 4 ∷ 0 ∷ 0 ∷ []
unfolding opened
in-common = refl
