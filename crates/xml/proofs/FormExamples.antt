-- Worked examples of the form of W5's text, element by element, and of the byte that 41 names. Each is broken by one of this crate's must-fail edits.
-- Which bytes a name may have is shown in crate forms.
-- Assumes nothing.
use Prim.Native.Nat.{ℕ}
use Prim.Native.String.{String}
use mathlib.Core.Path.{◌≡◌, refl}
use mathlib.Core.Bool.{Bool, true, false}
use mathlib.Core.List.{List, [], ◌∷◌, map}
use lib.ListN.{length, replicate}
use Rattle.forms.specs.Form.{ascii, Form, is_of_form, reach}
use Rattle.xml.specs.Grammar.{name, number, context, step, role, operation, exclusion, policy, set}
use Rattle.xml.proofs.Pieces.{opened, said}

-- which of some texts are of a form, row by row
abbrev are : Form → List (List String) → List (List Bool)
are f rows = map (map (λ s. is_of_form f (said s))) rows

-- ---- words

-- "A name is one or more of the list's bytes": a name; none; white space before, inside, behind it
pub names : are name (("a" ∷ "http://a.b/c-d" ∷ []) ∷ ("" ∷ " a" ∷ "a b" ∷ "a\t" ∷ []) ∷ []) ≡ replicate 2 true ∷ replicate 4 false ∷ []
unfolding opened
names = refl

-- "a cardinality one or more digits": one, with leading zeros, a large one; none, a sign, white space, a letter
pub numbers :
    are number (("2" ∷ "002" ∷ "18446744073709551618" ∷ []) ∷ ("" ∷ "-2" ∷ "+2" ∷ " 2" ∷ "2 " ∷ "2.0" ∷ "0x2" ∷ []) ∷ [])
    ≡ replicate 3 true ∷ replicate 7 false ∷ []
unfolding opened
numbers = refl

-- "levels .. may be any in number, none too": none, one of each mark, five
pub levels-any-in-number : are context (("" ∷ "a=b" ∷ "a=*" ∷ "a=!" ∷ "a=b,c=*,d=!,a=b,e=f" ∷ []) ∷ []) ≡ replicate 5 true ∷ []
unfolding opened
levels-any-in-number = refl

-- "free white space .. round a context's commas and equals signs", of all four kinds; not at its two ends, nor alone
pub context-white-space :
    are context
    (("a =b" ∷ "a= b" ∷ "a=b ,c=d" ∷ "a=b, c=d" ∷ "a \t=\r\n *\n,\r c=\t!" ∷ [])
    ∷ (" " ∷ " a=b" ∷ "a=b " ∷ "\ta=b,c=d" ∷ "a=b,c=d\n" ∷ []) ∷ [])
    ≡ replicate 5 true ∷ replicate 5 false ∷ []
unfolding opened
context-white-space = refl

-- not a context: no value, no type, a comma too many, other signs, a name beside `*`, a name of two words, two values
pub contexts-not :
    are context
    (("a" ∷ "a=" ∷ "=b" ∷ "=" ∷ [])
    ∷ ("," ∷ "a=b," ∷ ",a=b" ∷ "a=b,,c=d" ∷ "a=b;c=d" ∷ "a=b c=d" ∷ [])
    ∷ ("*=b" ∷ "a=**" ∷ "a=*b" ∷ "a=b*" ∷ "a=!!" ∷ "a=b c" ∷ "a=b=c" ∷ [])
    ∷ [])
    ≡ replicate 4 false ∷ replicate 6 false ∷ replicate 7 false ∷ []
unfolding opened
contexts-not = refl

-- ---- tags

-- "Attributes stand in any order": of steps, roles and operations
pub attributes-in-any-order :
    (are (step "LastStep") (("<LastStep operation='a' targetURI='b'/>" ∷ "<LastStep targetURI='b' operation='a'/>" ∷ []) ∷ [])
    ∷ are role (("<Role type='a' value='b'/>" ∷ "<Role value='b' type='a'/>" ∷ []) ∷ [])
    ∷ are operation (("<Operation value='a' target='b'/>" ∷ "<Operation target='b' value='a'/>" ∷ []) ∷ [])
    ∷ [])
    ≡ replicate 3 (replicate 2 true ∷ [])
unfolding opened
attributes-in-any-order = refl

-- not of the form: an attribute left out, both; one twice; a third one; one of another element, or in other letters; no value, an empty one
pub attributes-not :
    are role
    (("<Role value='b'/>" ∷ "<Role type='a'/>" ∷ "<Role/>" ∷ [])
    ∷ ("<Role value='b' value='b'/>" ∷ "<Role type='a' type='a'/>" ∷ "<Role type='a' value='b' value='b'/>" ∷ "<Role type='a' value='b' x='c'/>" ∷ [])
    ∷ ("<Role type='a' target='b'/>" ∷ "<Role Type='a' value='b'/>" ∷ "<role type='a' value='b'/>" ∷ [])
    ∷ ("<Role type value='b'/>" ∷ "<Role type='' value='b'/>" ∷ [])
    ∷ [])
    ≡ replicate 3 false ∷ replicate 4 false ∷ replicate 3 false ∷ replicate 2 false ∷ []
unfolding opened
attributes-not = refl

-- "in double quotes": not in single ones, nor in none
pub double-quotes :
    map (λ s. is_of_form role (ascii s))
    ("<Role type=\"a\" value=\"b\"/>" ∷ "<Role type='a' value='b'/>" ∷ "<Role type=\"a\" value='b'/>" ∷ "<Role type=a value=b/>" ∷ [])
    ≡ true ∷ replicate 3 false
unfolding opened
double-quotes = refl

-- "with free white space where XML has it": before each attribute, round its equals sign, before `/>`, behind it. At least one before each attribute;
-- not between `<` and the name, nor between `/` and `>`, nor inside a name or a value
pub white-space-in-tags :
    are role
    (("<Role type='a' value='b' />" ∷ "<Role\ttype\n=\r'a'\n \tvalue \n= 'b'\r\n/>" ∷ "<Role type='a' value='b'/> \r\n\t" ∷ [])
    ∷ ("<Roletype='a' value='b'/>" ∷ "<Role type='a'value='b'/>" ∷ "< Role type='a' value='b'/>" ∷ "<Role type='a' value='b'/ >" ∷ [])
    ∷ ("<Ro le type='a' value='b'/>" ∷ "<Role ty pe='a' value='b'/>" ∷ [])
    ∷ ("<Role type=' a' value='b'/>" ∷ "<Role type='a' value='b '/>" ∷ "<Role type='a' value='b c'/>" ∷ [])
    ∷ [])
    ≡ replicate 3 true ∷ replicate 4 false ∷ replicate 2 false ∷ replicate 3 false ∷ []
unfolding opened
white-space-in-tags = refl

-- "steps and members end in />": not in `>`, nor in an end tag
pub leaves-end :
    are (step "FirstStep")
    (("<FirstStep operation='a' targetURI='b'/>" ∷ [])
    ∷ ("<FirstStep operation='a' targetURI='b'>" ∷ "<FirstStep operation='a' targetURI='b'></FirstStep>" ∷ []) ∷ [])
    ≡ (true ∷ []) ∷ replicate 2 false ∷ []
unfolding opened
leaves-end = refl

-- "all others in an end tag", with white space before `>` and behind the end tag's name: not in `/>`, nor with white space elsewhere, attributes or
-- another name there; "members may be any in number, none too"
pub exclusions-end :
    are (exclusion "MMER" role)
    (("<MMER ForbiddenCardinality='2'></MMER>" ∷ "<MMER ForbiddenCardinality = '2'\n>\n</MMER\t>\n" ∷ [])
    ∷ ("<MMER ForbiddenCardinality='2'/>" ∷ "<MMER ForbiddenCardinality='2'>" ∷ "<MMER ForbiddenCardinality='2'></MMEP>" ∷ "<MMER></MMER>" ∷ [])
    ∷ ("<MMER ForbiddenCardinality='2'>< /MMER>" ∷ "<MMER ForbiddenCardinality='2'></ MMER>" ∷ "<MMER ForbiddenCardinality='2'></MM ER>" ∷ [])
    ∷ ("<MMER ForbiddenCardinality='2' ForbiddenCardinality='2'></MMER>" ∷ "<MMER ForbiddenCardinality='2'></MMER ForbiddenCardinality='2'>" ∷ [])
    ∷ [])
    ≡ replicate 2 true ∷ replicate 4 false ∷ replicate 3 false ∷ replicate 2 false ∷ []
unfolding opened
exclusions-end = refl

-- roles stand in MMER, operations in MMEP, with white space between them or none; no member of the other kind, no text, no member of the schema's name
pub members-stand :
    are (exclusion "MMEP" operation)
    (("<MMEP ForbiddenCardinality='2'><Operation value='a' target='b'/><Operation value='a' target='b'/>\n<Operation target='b' value='a'/></MMEP>" ∷ [])
    ∷ ("<MMEP ForbiddenCardinality='2'><Role type='a' value='b'/></MMEP>"
    ∷ "<MMEP ForbiddenCardinality='2'>a</MMEP>"
    ∷ "<MMEP ForbiddenCardinality='2'><Privilege target='b' operation='a'/></MMEP>"
    ∷ [])
    ∷ [])
    ≡ (true ∷ []) ∷ replicate 3 false ∷ []
unfolding opened
members-stand = refl

-- ---- rules and sets

-- "A first, then a last step, each optional, stand before the exclusions, these in any mix": none of all these; each step alone; both; MMER, MMEP, MMER
pub rules-stand :
    are policy
    (("<MSoDPolicy BusinessContext=''></MSoDPolicy>"
    ∷ "<MSoDPolicy BusinessContext='a=!'><FirstStep operation='a' targetURI='b'/></MSoDPolicy>"
    ∷ "<MSoDPolicy BusinessContext='a=!'> <LastStep operation='a' targetURI='b'/> </MSoDPolicy>"
    ∷ "<MSoDPolicy BusinessContext=''><FirstStep operation='a' targetURI='b'/>\n<LastStep operation='a' targetURI='b'/></MSoDPolicy>"
    ∷ "<MSoDPolicy BusinessContext=''><MMER ForbiddenCardinality='2'></MMER><MMEP ForbiddenCardinality='2'></MMEP>\n<MMER ForbiddenCardinality='1'></MMER></MSoDPolicy>"
    ∷ [])
    ∷ [])
    ≡ replicate 5 true ∷ []
unfolding opened
rules-stand = refl

-- not of the form: first and last step in the wrong order; a step twice; a step behind an exclusion, inside one; a member outside an exclusion; a rule
-- in a rule; a rule that ends in `/>`; one with no context
pub rules-not :
    are policy
    (("<MSoDPolicy BusinessContext=''><LastStep operation='a' targetURI='b'/><FirstStep operation='a' targetURI='b'/></MSoDPolicy>"
    ∷ "<MSoDPolicy BusinessContext=''><FirstStep operation='a' targetURI='b'/><FirstStep operation='a' targetURI='b'/></MSoDPolicy>"
    ∷ "<MSoDPolicy BusinessContext=''><MMER ForbiddenCardinality='2'></MMER><LastStep operation='a' targetURI='b'/></MSoDPolicy>"
    ∷ "<MSoDPolicy BusinessContext=''><MMER ForbiddenCardinality='2'><LastStep operation='a' targetURI='b'/></MMER></MSoDPolicy>"
    ∷ [])
    ∷ ("<MSoDPolicy BusinessContext=''><Role type='a' value='b'/></MSoDPolicy>"
    ∷ "<MSoDPolicy BusinessContext=''><MSoDPolicy BusinessContext=''></MSoDPolicy></MSoDPolicy>"
    ∷ "<MSoDPolicy BusinessContext=''/>"
    ∷ "<MSoDPolicy></MSoDPolicy>"
    ∷ [])
    ∷ [])
    ≡ replicate 4 false ∷ replicate 4 false ∷ []
unfolding opened
rules-not = refl

-- "rules .. may be any in number, none too", with white space before, behind and between. Not of the form: a set that ends in `/>`, one with an
-- attribute, two sets, none, a rule outside
pub sets :
    are set
    (("<MSoDPolicySet></MSoDPolicySet>"
    ∷ "\r\n <MSoDPolicySet > </MSoDPolicySet >\t\n"
    ∷ "<MSoDPolicySet><MSoDPolicy BusinessContext=''></MSoDPolicy>\n<MSoDPolicy BusinessContext=''></MSoDPolicy></MSoDPolicySet>"
    ∷ [])
    ∷ ("<MSoDPolicySet/>"
    ∷ "<MSoDPolicySet a='b'></MSoDPolicySet>"
    ∷ "<MSoDPolicySet></MSoDPolicySet><MSoDPolicySet></MSoDPolicySet>"
    ∷ ""
    ∷ "<MSoDPolicy BusinessContext=''></MSoDPolicy>"
    ∷ [])
    ∷ [])
    ≡ replicate 3 true ∷ replicate 5 false ∷ []
unfolding opened
sets = refl

-- ---- 41's byte

-- how many bytes of each text some text of the form begins with
abbrev reached : List String → List ℕ
reached ss = map (λ s. reach set (said s)) ss

-- "its end counted": a text that stops early gives its length, also inside a name, a word or a value
pub stops-early :
    (let ss =
    ""
    ∷ "<"
    ∷ "<MSoDPol"
    ∷ "<MSoDPolicySet>"
    ∷ "<MSoDPolicySet><MSoDPolicy BusinessContext='a=b,"
    ∷ "<MSoDPolicySet><MSoDPolicy BusinessContext='a=!'></MSoDPolicy></MSoDPolicySet"
    ∷ [] in
    (reached ss ∷ map (λ s. length (ascii s)) ss ∷ []))
    ≡ replicate 2 (0 ∷ 1 ∷ 8 ∷ 15 ∷ 48 ∷ 77 ∷ [])
unfolding opened
stops-early = refl

-- "the first byte (from 0 ..) that no text of the form has after those before it": in front of the set; in its name; in the first tag; a rule's end
-- where no rule is; the set's end inside a rule; a context that ends in white space (its closing quote); one with no equals sign; text behind the set's end
pub first-wrong-byte :
    reached
    ("a<MSoDPolicySet>"
    ∷ "< MSoDPolicySet>"
    ∷ "<MSoDPolicy BusinessContext=''>"
    ∷ "<MSoDPolicySet></MSoDPolicy>"
    ∷ "<MSoDPolicySet><MSoDPolicy BusinessContext=''></MSoDPolicySet>"
    ∷ "<MSoDPolicySet><MSoDPolicy BusinessContext='a=b '>"
    ∷ "<MSoDPolicySet><MSoDPolicy BusinessContext='a'>"
    ∷ "<MSoDPolicySet></MSoDPolicySet> \na"
    ∷ "<MSoDPolicySet></MSoDPolicySet><MSoDPolicySet>"
    ∷ [])
    ≡ 0 ∷ 1 ∷ 11 ∷ 27 ∷ 58 ∷ 48 ∷ 45 ∷ 33 ∷ 31 ∷ []
unfolding opened
first-wrong-byte = refl

-- "Comments, declarations and entities are not of the form": a declaration, a comment, a document type in front of the set; the comment of section 3's
-- own sample; character data; an entity in a value
pub not-of-the-form :
    reached
    ("<?xml version='1.0'?><MSoDPolicySet></MSoDPolicySet>"
    ∷ "<!-- a --><MSoDPolicySet></MSoDPolicySet>"
    ∷ "\n<!DOCTYPE a><MSoDPolicySet></MSoDPolicySet>"
    ∷ "<MSoDPolicySet>\n  <MSoDPolicy BusinessContext='Branch=*, Period=!'>\n<!-- policy applies"
    ∷ "<MSoDPolicySet><![CDATA[a]]></MSoDPolicySet>"
    ∷ "<MSoDPolicySet><MSoDPolicy BusinessContext='a=&lt;'></MSoDPolicy></MSoDPolicySet>"
    ∷ [])
    ≡ 1 ∷ 1 ∷ 2 ∷ 69 ∷ 16 ∷ 46 ∷ []
unfolding opened
not-of-the-form = refl
