-- Texts of contexts: levels with commas between them, and that a reader of the form takes them.
-- Assumes nothing.
use Prim.Native.Nat.{ℕ}
use native.Mathlib.Omega.{arith}
use mathlib.Core.Path.{◌≡◌, refl, sym, ap, ◌∙◌}
use mathlib.Core.Bool.{true, false}
use mathlib.Core.List.{List, [], ◌∷◌, ◌++◌, append_assoc}
use Rattle.words.specs.Lists.{any_of}
use Rattle.word_laws.proofs.Every.{Every, empty, more}
use Rattle.forms.specs.Form.{ascii, Kind, this, space, of_name, name_byte, is_of, Form, blank, one, ◌or◌, many, may_end, joined, bytes, is_nothing, either, left, lefts}
use Rattle.forms.proofs.Laws.{either-nothing}
use Rattle.forms.proofs.Sequence.{left-many, left_or, begun, left-joined}
use Rattle.forms.proofs.Runs.{many-past}
use Rattle.xml.specs.Grammar.{◌▸◌, text, gap, name, level, context, attribute, spaced}
use Rattle.xml_laws.proofs.TextNames.{SomeOf, Apart, byte-apart, other_byte, lefts-many, lefts-past, lefts-some}
use Rattle.xml_laws.proofs.TextPieces.{quoted, closed}
use Rattle.xml_laws.proofs.TextRests.{Takes}

-- ---- the texts

-- a value: a name, `*` or `!`
pub data ValueText : List ℕ → Type 0 where
  a-name : {w : List ℕ} → SomeOf of_name w → ValueText w
  for-every : ValueText (42 ∷ [])
  for-each : ValueText (33 ∷ [])

-- a level: a type's name, an equals sign and a value
pub data LevelText : List ℕ → Type 0 where
  type-value : {w v : List ℕ} → SomeOf of_name w → ValueText v → LevelText (w ++ 61 ∷ v)

-- each level with a comma before it
unfoldable pub commas : List (List ℕ) → List ℕ
commas [] = []
commas (t ∷ ts) = 44 ∷ t ++ commas ts

-- levels with commas between them
unfoldable pub levels_text : List (List ℕ) → List ℕ
levels_text [] = []
levels_text (t ∷ ts) = t ++ commas ts

-- ---- the form

opened : Unit {0}
unfolding ascii name_byte is_of any_of may_end joined is_nothing either left lefts bytes quoted begun
opened = tt

-- a name's byte is not another byte
not-this : (b c : ℕ) → is_of of_name b ≡ true → is_of of_name c ≡ false → is_of (this c) b ≡ false
unfolding is_of
not-this b c e f = other_byte of_name b c e f

-- no white space is of the kind
abbrev pub NoSpace : Kind → Type 0
NoSpace q = (is_of q 32 ≡ false) × (is_of q 9 ≡ false) × (is_of q 13 ≡ false) × (is_of q 10 ≡ false)

pub not-space : (q : Kind) (b : ℕ) → NoSpace q → is_of q b ≡ true → is_of space b ≡ false
unfolding is_of
not-space q b n e = rw (other_byte q b 32 e n.0, other_byte q b 9 e n.1, other_byte q b 13 e n.2, other_byte q b 10 e n.3)

name-not-space : (b : ℕ) → is_of of_name b ≡ true → is_of space b ≡ false
unfolding is_of name_byte any_of ascii
name-not-space b e = not-space of_name b (refl, refl, refl, refl) e

-- what may follow a level, up to the double quote
abbrev levels : Form → Form
levels k = many (gap ▸ text "," ▸ gap ▸ level) ▸ text "\"" ▸ k

abbrev value : Form
value = name or text "*" or text "!"

-- no name begins with white space, nor with what follows it, nor may one stand behind a level
gap-apart : (k : Form) → Apart of_name k → Apart of_name (gap ▸ k)
gap-apart k h b e = many-past space k b (name-not-space b e) ∙ h b e

levels-apart : (k : Form) → Apart of_name (levels k)
unfolding opened
levels-apart k b e =
    left-many (gap ▸ text "," ▸ gap ▸ level) (text "\"" ▸ k) b
    ∙ rw (gap-apart (text "," ▸ gap ▸ level) (byte-apart of_name 44 (gap ▸ level) refl) b e, byte-apart of_name 34 k refl b e)

-- a value up to a byte that is of no name
value_taken : (k : Form) (c : ℕ) (u : List ℕ) {v : List ℕ} → is_of of_name c ≡ false → ValueText v
    → lefts (gap ▸ value ▸ levels k) (v ++ c ∷ u) ≡ lefts (levels k) (c ∷ u)
unfolding opened
value_taken k c u f (a-name {w = []} (l, h)) = absurd (omega arith)
value_taken k c u f (a-name {w = b ∷ w} (l, more e h)) =
    ap (λ g. lefts g (w ++ c ∷ u)) (many-past space (value ▸ levels k) b (name-not-space b e) ∙ begins b e)
    ∙ lefts-many of_name (levels k) (c ∷ u) (levels-apart k) h
    ∙ lefts-past of_name (levels k) c u f
  where
    begins : (b : ℕ) → is_of of_name b ≡ true → left (value ▸ levels k) b ≡ many (one of_name) ▸ levels k
    begins b e = rw (e, not-this b 42 e refl, not-this b 33 e refl)
value_taken k c u f for-every = refl
value_taken k c u f for-each = refl

-- a level up to such a byte
level-taken : (k : Form) (c : ℕ) (u : List ℕ) {t : List ℕ} → is_of of_name c ≡ false → LevelText t
    → lefts (level ▸ levels k) (t ++ c ∷ u) ≡ lefts (levels k) (c ∷ u)
unfolding opened
level-taken k c u f (type-value {w} {v} h g) =
    rw (append_assoc w (61 ∷ v) (c ∷ u))
    (lefts-some of_name (gap ▸ text "=" ▸ gap ▸ value ▸ levels k) 61 (v ++ c ∷ u) w
    (gap-apart (text "=" ▸ gap ▸ value ▸ levels k) (byte-apart of_name 61 (gap ▸ value ▸ levels k) refl)) refl h
    ∙ value_taken k c u f g)

-- two forms of which the same is left after a name's byte are met alike by a level
by-first-byte : (f g : Form) (u : List ℕ) {t : List ℕ} → ((b : ℕ) → is_of of_name b ≡ true → left f b ≡ left g b) → LevelText t
    → lefts f (t ++ u) ≡ lefts g (t ++ u)
unfolding lefts
by-first-byte f g u same (type-value {w = []} (l, h) z) = absurd (omega arith)
by-first-byte f g u same (type-value {w = b ∷ w} {v} (l, more e h) z) = ap (λ k. lefts k (w ++ 61 ∷ v ++ u)) (same b e)

-- a level before others, up to the double quote
level-on : (k : Form) (u : List ℕ) (ts : List (List ℕ)) {t : List ℕ} → LevelText t
    → lefts (level ▸ levels k) (t ++ (commas ts ++ 34 ∷ u)) ≡ lefts (levels k) (commas ts ++ 34 ∷ u)
unfolding opened commas
level-on k u [] h = level-taken k 34 u refl h
level-on k u (s ∷ ts) h = level-taken k 44 (s ++ commas ts ++ 34 ∷ u) refl h

-- levels with commas before them, up to the double quote
commas-taken : (k : Form) (u : List ℕ) {ts : List (List ℕ)} → Every LevelText ts → lefts (levels k) (commas ts ++ 34 ∷ u) ≡ lefts k u
unfolding opened commas
commas-taken k u empty = ap (λ f. lefts f u) (either-nothing k)
commas-taken k u (more {x = t} {xs = ts} h r) =
    rw (append_assoc t (commas ts) (34 ∷ u))
    (by-first-byte (gap ▸ level ▸ levels k) (level ▸ levels k) (commas ts ++ 34 ∷ u)
    (λ b e. many-past space (level ▸ levels k) b (name-not-space b e)) h
    ∙ level-on k u ts h
    ∙ commas-taken k u r)

-- a context is met by a name's byte as levels are
context-begins : (k : Form) (b : ℕ) → is_of of_name b ≡ true → left (context ▸ text "\"" ▸ k) b ≡ left (level ▸ levels k) b
unfolding opened
context-begins k b e =
    left_or blank (level ▸ many (gap ▸ text "," ▸ gap ▸ level)) (text "\"" ▸ k) b
    ∙ rw (byte-apart of_name 34 k refl b e) (either-nothing (left (level ▸ many (gap ▸ text "," ▸ gap ▸ level)) b ▸ text "\"" ▸ k))
    ∙ sym (left-joined (level ▸ many (gap ▸ text "," ▸ gap ▸ level)) (text "\"" ▸ k) b refl)

-- levels with commas between them, none too, up to the double quote
context-taken : (k : Form) (u : List ℕ) {ts : List (List ℕ)} → Every LevelText ts
    → lefts (context ▸ text "\"" ▸ k) (levels_text ts ++ 34 ∷ u) ≡ lefts k u
unfolding opened levels_text
context-taken k u empty = ap (λ f. lefts f u) (either-nothing k)
context-taken k u (more {x = t} {xs = ts} h r) =
    rw (append_assoc t (commas ts) (34 ∷ u))
    (by-first-byte (context ▸ text "\"" ▸ k) (level ▸ levels k) (commas ts ++ 34 ∷ u) (context-begins k) h
    ∙ level-on k u ts h
    ∙ commas-taken k u r)

-- so the rest of a rule's start tag is taken
pub context-rest : {ts : List (List ℕ)} → Every LevelText ts
    → Takes (spaced (attribute "BusinessContext" context) ▸ gap ▸ text ">") (closed (ascii " BusinessContext=") (levels_text ts ∷ [] ∷ []))
unfolding opened
context-rest h k = context-taken (gap ▸ text ">" ▸ k) (ascii ">") h ∙ either-nothing k
