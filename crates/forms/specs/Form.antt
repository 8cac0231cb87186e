-- Forms of texts: a small language to say which texts are meant, and what may come next in one. A text is a list of bytes.
-- Assumes nothing.
use Rattle.std.specs.Prelude.{ℕ, suc, Bool, true, false, cond, not, ◌&&◌, ◌||◌, List, [], ◌∷◌, eqb, leb}
use Prim.Native.Char.{code}
use Prim.Native.String.{String, [] as []ˢ, ◌∷◌ as ◌∷ˢ◌}
use Rattle.words.specs.Lists.{any_of}

-- the bytes of a text in quotes
unfoldable pub ascii : String → List ℕ
ascii []ˢ = []
ascii (c ∷ˢ s) = code c ∷ ascii s

-- ---- bytes

-- the kinds of bytes that forms speak of: one byte alone, white space, a digit, a byte of a name
pub data Kind : Type 0 where
  this : ℕ → Kind
  space : Kind
  digit : Kind
  of_name : Kind

-- "ASCII bytes 33 to 126 without `"` `&` `<` `>` `=` `,` `*` `!`"
unfoldable pub name_byte : ℕ → Bool
name_byte b = leb 33 b && leb b 126 && not (any_of (eqb b) (ascii "\"&<>=,*!"))

-- a byte is of a kind; XML's white space is space, tab, carriage return and line feed
unfoldable pub is_of : Kind → ℕ → Bool
is_of (this n) b = eqb b n
is_of space b = eqb b 32 || eqb b 9 || eqb b 13 || eqb b 10
is_of digit b = leb 48 b && leb b 57
is_of of_name b = name_byte b

-- ---- forms

infixr 30 ◌then◌
infixr 20 ◌or◌
-- no text at all; the empty text; one byte of a kind; the one and then the other; the one or the other; any number, none too
pub data Form : Type 0 where
  nothing : Form
  blank : Form
  one : Kind → Form
  ◌then◌ : Form → Form → Form
  ◌or◌ : Form → Form → Form
  many : Form → Form

-- the empty text is of the form
unfoldable pub may_end : Form → Bool
may_end nothing = false
may_end blank = true
may_end (one k) = false
may_end (f then g) = may_end f && may_end g
may_end (f or g) = may_end f || may_end g
may_end (many f) = true

-- no text is of the form
unfoldable pub hopeless : Form → Bool
hopeless nothing = true
hopeless blank = false
hopeless (one k) = false
hopeless (f then g) = hopeless f || hopeless g
hopeless (f or g) = hopeless f && hopeless g
hopeless (many f) = false

-- f and then g, with no blank in front and nested to the right
unfoldable pub joined : Form → Form → Form
joined nothing g = nothing
joined blank g = g
joined (one k) g = one k then g
joined (f then h) g = joined f (joined h g)
joined (f or h) g = (f or h) then g
joined (many f) g = many f then g

-- just these bytes
unfoldable pub bytes : List ℕ → Form
bytes [] = blank
bytes (b ∷ t) = joined (one (this b)) (bytes t)

unfoldable pub is_nothing : Form → Bool
is_nothing nothing = true
is_nothing blank = false
is_nothing (one k) = false
is_nothing (f then g) = false
is_nothing (f or g) = false
is_nothing (many f) = false

-- f or g, without the one that is nothing
unfoldable pub either : Form → Form → Form
either f g = cond (is_nothing f) g (cond (is_nothing g) f (f or g))

-- ---- what may come next

-- what is left of a form after a byte: the form of all that may follow it
unfoldable pub left : Form → ℕ → Form
left nothing b = nothing
left blank b = nothing
left (one k) b = cond (is_of k b) blank nothing
left (f then g) b = either (joined (left f b) g) (cond (may_end f) (left g b) nothing)
left (f or g) b = either (left f b) (left g b)
left (many f) b = joined (left f b) (many f)

-- and after some bytes
unfoldable pub lefts : Form → List ℕ → Form
lefts f [] = f
lefts f (b ∷ t) = lefts (left f b) t

-- a text is of a form
unfoldable pub is_of_form : Form → List ℕ → Bool
is_of_form f t = may_end (lefts f t)

-- how many bytes of t, from its first, some text of the form begins with: "the first byte (from 0, its end counted) that no text of the form has after
-- those before it". What is meant by that is said, and proved, without `left` in Texts.antt.
unfoldable pub reach : Form → List ℕ → ℕ
reach f [] = 0
reach f (b ∷ t) = cond (hopeless (left f b)) 0 (suc (reach (left f b) t))
