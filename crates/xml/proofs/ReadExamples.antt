-- Worked examples of reading: what tags say, what they give, where names and limits are tested, and the image. Each is broken by one of this crate's
-- must-fail edits.
-- Assumes nothing.
use Prim.Native.Nat.{ℕ}
use Prim.Native.String.{String}
use mathlib.Core.Path.{◌≡◌, refl}
use mathlib.Core.List.{List, [], ◌∷◌, ◌++◌, map, flatten}
use mathlib.Core.Option.{Option, none, some}
use lib.ListN.{length, replicate}
use Rattle.words.specs.First.{unless}
use Rattle.words.specs.Bytes.{zeros}
use Rattle.format.specs.Answer.{Refusal, refusal}
use Rattle.format.specs.Block.{sealed}
use Rattle.format.specs.Rule.{Rule}
use Rattle.format.specs.Policy.{rule_count}
use Rattle.forms.specs.Form.{ascii}
use Rattle.xml.specs.Tags.{ended, parted, tags_in, Tag, start_set, end_set, start_rule, end_rule, first_step, last_step, start_exclusion, end_exclusion, role}
use Rattle.xml.specs.Tags.{privilege as member, tag_of}
use Rattle.xml.specs.Blocks.{rules_image}
use Rattle.xml.specs.Read.{decimal, role_fault, privilege_fault, level_texts, level_of, level_fault, first_of, Reading, new_members, new_draft, nothing_read}
use Rattle.xml.specs.Read.{good_set, tag_fault, tags_fault, after_tags, good_tags}
use Rattle.xml.proofs.Pieces.{policies, opened, said, entry, list, level, privilege, step, unset, roles, privileges, rule, body, permissions, plain_rule}

-- ---- tags

-- the tags of a text; one that does not end is none
abbrev tags : String → List Tag
tags s = map tag_of (tags_in (said s))

-- pieces that end in a byte, and that a byte parts: `;`
pub pieces : (ended 59 (ascii "a;bc;;d") ∷ parted 59 (ascii "a;bc;;d") ∷ parted 59 [] ∷ [])
    ≡ (ascii "a" ∷ ascii "bc" ∷ [] ∷ []) ∷ (ascii "a" ∷ ascii "bc" ∷ [] ∷ ascii "d" ∷ []) ∷ ([] ∷ []) ∷ []
unfolding opened
pieces = refl

-- a rule with an exclusion of each kind, whatever white space is there; a tag that stops early is left out
pub tags-in-turn :
    map tags
    ("<MSoDPolicySet><MSoDPolicy BusinessContext='a=b,c=*'><MMER ForbiddenCardinality='2'></MMER><MMEP ForbiddenCardinality='3'></MMEP></MSoDPolicy><a"
    ∷ "\n<MSoDPolicySet > <MSoDPolicy\nBusinessContext = 'a = b\r,\tc= *'> <MMER ForbiddenCardinality ='2' >\n</MMER ><MMEP\tForbiddenCardinality= '3'></MMEP\n></MSoDPolicy >"
    ∷ [])
    ≡ replicate 2
    (start_set
    ∷ start_rule (ascii "a=b,c=*")
    ∷ start_exclusion 1 (ascii "2")
    ∷ end_exclusion
    ∷ start_exclusion 2 (ascii "3")
    ∷ end_exclusion
    ∷ end_rule
    ∷ [])
unfolding opened
tags-in-turn = refl

-- "Attributes stand in any order": an operation is an operation in both; "A Role's type attribute is read and dropped."
pub tags-with-two :
    (tags "<FirstStep operation='a' targetURI='b'/><FirstStep targetURI='b' operation='a'/>"
    ∷ tags "<LastStep operation='a' targetURI='b'/><LastStep targetURI='b' operation='a'/>"
    ∷ tags "<Role type='b' value='a'/><Role value='a' type='c'/>"
    ∷ tags "<Operation value='a' target='b'/><Operation target='b' value='a'/>"
    ∷ [])
    ≡ map (replicate 2) (first_step (ascii "a") (ascii "b") ∷ last_step (ascii "a") (ascii "b") ∷ role (ascii "a") ∷ member (ascii "a") (ascii "b") ∷ [])
unfolding opened
tags-with-two = refl

-- ---- what they give

-- "A value of * is mark 2, ! is mark 3, a name mark 1"; an empty context has no level
pub levels-read :
    map (λ c. map (level_of list) (level_texts (ascii c))) ("" ∷ "branch=*,period=!" ∷ "period=york" ∷ [])
    ≡ [] ∷ (level 1 2 0 ∷ level 2 3 0 ∷ []) ∷ (level 2 1 7 ∷ []) ∷ []
unfolding opened
levels-read = refl

-- "42 for a name .. not listed": a type, a value, and each listed in another kind alone
pub levels-unlisted :
    map (map (λ c. first_of (level_fault list) (level_texts (ascii c))))
    (("" ∷ "branch=york,period=!,branch=*" ∷ []) ∷ ("depot=*" ∷ "york=!" ∷ "branch=leeds" ∷ "branch=period" ∷ "branch=*,period=york,branch=a" ∷ []) ∷ [])
    ≡ replicate 2 none ∷ replicate 5 (some (refusal 42 0 0)) ∷ []
unfolding opened
levels-unlisted = refl

-- "a cardinality one or more digits": leading zeros, ten, and a number that is 2 in 8, 32 and 64 bits alone
pub cardinalities : map (λ s. decimal (ascii s)) ("2" ∷ "002" ∷ "10" ∷ "0" ∷ "18446744073709551618" ∷ []) ≡ 2 ∷ 2 ∷ 10 ∷ 0 ∷ 18446744073709551618 ∷ []
unfolding opened
cardinalities = refl

-- of a member: a role that is listed, "roles 1 to 32", not listed or so in another kind alone; the same for an operation and a target
pub members-tested :
    (map (role_fault (entry 3 32 "clerk" ++ list)) (ascii "clerk" ∷ ascii "guest" ∷ ascii "Teller" ∷ ascii "count" ∷ [])
    ∷ map (λ w. privilege_fault list (ascii w) (ascii w)) ("audit" ∷ "till" ∷ "count" ∷ [])
    ∷ [])
    ≡ (none ∷ some (refusal 43 0 0) ∷ replicate 2 (some (refusal 42 0 0))) ∷ (none ∷ replicate 2 (some (refusal 42 0 0))) ∷ []
unfolding opened
members-tested = refl

-- the tags of an exclusion of roles, and of one of operations on the till; of a rule
abbrev mmer : String → List String → List Tag
mmer m vs = start_exclusion 1 (ascii m) ∷ map (λ v. role (ascii v)) vs ++ end_exclusion ∷ []

abbrev mmep : String → List String → List Tag
mmep m os = start_exclusion 2 (ascii m) ∷ map (λ o. member (ascii o) (ascii "till")) os ++ end_exclusion ∷ []

abbrev ruled : String → List Tag → List Tag
ruled c ts = start_rule (ascii c) ∷ ts ++ end_rule ∷ []

-- a good exclusion
abbrev two : List Tag
two = mmer "2" ("teller" ∷ "auditor" ∷ [])

-- so many of them
abbrev many : ℕ → List Tag
many n = flatten (replicate n two)

-- the fault of some tags before the set's end
abbrev fault : List Tag → Option Refusal
fault ts = tags_fault list [] 0 nothing_read ts

-- two rules: levels, steps and exclusions in their order, and repeated privileges all kept. A rule has nothing of the one before it
pub rules-read :
    (after_tags list nothing_read
    (ruled "branch=york,period=!"
    (first_step (ascii "count") (ascii "till")
    ∷ last_step (ascii "audit") (ascii "audit")
    ∷ mmep "2" ("count" ∷ "audit" ∷ "count" ∷ [])
    ++ mmer "2" ("auditor" ∷ "teller" ∷ []))
    ++ ruled "" two)
    ).rules
    ≡ rule (level 1 1 7 ∷ level 2 3 0 ∷ []) (step 5 3) (step 6 4)
    (privileges 2 (privilege 5 3 ∷ privilege 6 3 ∷ privilege 5 3 ∷ []) ∷ roles 2 (2 ∷ 1 ∷ []) ∷ [])
    ∷ rule [] unset unset (roles 2 (1 ∷ 2 ∷ []) ∷ [])
    ∷ []
unfolding opened
rules-read = refl

-- ---- where names and limits are tested

-- of an exclusion, at its end tag. Good: two roles, a privilege twice, leading zeros. "43 for what breaks document 01's limits": m 0, 1, above n, far
-- above, 2 in a byte alone; a role twice; no member; nine
pub exclusions-tested :
    map (map fault)
    ((two ∷ mmep "2" ("count" ∷ "count" ∷ []) ∷ mmer "002" ("teller" ∷ "auditor" ∷ []) ∷ [])
    ∷ map (λ m. mmer m ("teller" ∷ "auditor" ∷ [])) ("0" ∷ "1" ∷ "3" ∷ "258" ∷ "18446744073709551618" ∷ [])
    ∷ (mmer "2" ("teller" ∷ "teller" ∷ []) ∷ mmer "2" [] ∷ mmep "2" (replicate 9 "count") ∷ [])
    ∷ [])
    ≡ replicate 3 none ∷ replicate 5 (some (refusal 43 0 0)) ∷ replicate 3 (some (refusal 43 0 0)) ∷ []
unfolding opened
exclusions-tested = refl

-- the first and the last step of a rule
abbrev first : Tag
first = first_step (ascii "count") (ascii "till")

abbrev last : Tag
last = last_step (ascii "count") (ascii "audit")

-- of a rule, at its end tag. Good: no level, four, eight exclusions, two steps of one operation. Five levels, no exclusion, nine, two equal steps
pub rules-tested :
    map (map fault)
    ((ruled "" two ∷ ruled "branch=*,branch=!,period=york,period=*" (mmer "2" ("teller" ∷ "auditor" ∷ [])) ∷ ruled "" (first ∷ last ∷ many 8) ∷ [])
    ∷ (ruled "branch=*,branch=*,branch=*,branch=*,branch=*" two
    ∷ ruled "branch=*" []
    ∷ ruled "" (many 9)
    ∷ ruled "" (first ∷ last_step (ascii "count") (ascii "till") ∷ two)
    ∷ [])
    ∷ [])
    ≡ replicate 3 none ∷ replicate 4 (some (refusal 43 0 0)) ∷ []
unfolding opened
rules-tested = refl

-- "Names, then limits, are tested where the innermost element holding all they concern ends". At the same place 42 goes before 43: five levels, and no
-- exclusion, with a name that is not listed. Whichever stands first: a role above 32 and a role twice before the context's name; a member's name before m;
-- m of 1 before the next exclusion's member; a rule's context before the next rule's member
pub whichever-stands-first :
    map (map fault)
    ((ruled "branch=*,branch=*,branch=*,branch=*,depot=*" two
    ∷ ruled "depot=*" []
    ∷ ruled "branch=leeds" (first ∷ last_step (ascii "count") (ascii "till") ∷ two) ∷ [])
    ∷ (ruled "depot=*" (mmer "2" ("teller" ∷ "guest" ∷ [])) ∷ ruled "depot=*" (mmer "2" ("teller" ∷ "teller" ∷ [])) ∷ [])
    ∷ (mmer "1" ("teller" ∷ "clerk" ∷ []) ∷ mmep "9" ("count" ∷ "close" ∷ []) ∷ (ruled "depot=*" two ++ ruled "" (mmer "2" ("guest" ∷ []))) ∷ [])
    ∷ ((mmer "1" ("teller" ∷ "auditor" ∷ []) ++ mmer "2" ("clerk" ∷ [])) ∷ (ruled "" [] ++ ruled "" (first_step (ascii "close") (ascii "till") ∷ [])) ∷ [])
    ∷ [])
    ≡ replicate 3 (some (refusal 42 0 0))
    ∷ replicate 2 (some (refusal 43 0 0))
    ∷ replicate 3 (some (refusal 42 0 0))
    ∷ replicate 2 (some (refusal 43 0 0))
    ∷ []
unfolding opened
whichever-stands-first = refl

-- before its end tag nothing is tested: a rule with an unlisted context and equal steps, an exclusion with m 1 and a role twice, one with nine members
pub not-before-the-end :
    map fault
    ((start_rule (ascii "depot=*,branch=leeds") ∷ first ∷ last_step (ascii "count") (ascii "till") ∷ many 9)
    ∷ (start_exclusion 1 (ascii "1") ∷ role (ascii "teller") ∷ role (ascii "teller") ∷ [])
    ∷ (start_exclusion 2 (ascii "99") ∷ replicate 9 (member (ascii "count") (ascii "till")))
    ∷ [])
    ≡ replicate 3 none
unfolding opened
not-before-the-end = refl

-- some rules have been read, it does not matter which
abbrev have : ℕ → Reading
have n = record { rules = replicate n (rule [] unset unset (roles 2 (1 ∷ 2 ∷ []) ∷ [])); rule = new_draft []; exclusion = new_members 0 0 }

-- the set's end after so many rules, with a second image and so much room
abbrev ended-after : ℕ → List ℕ → ℕ → Option Refusal
ended-after n second room = tag_fault list second room (have n) end_set

-- at the set's end. Good: with a second image of one permission block, 1 rule in room for 2 blocks and 32 in room for 33; with one of one rule alone, a
-- rule in room for 1 block. Then 33 rules; room for a block and for a byte too few; "leaves no block"
pub set_tested :
    ((ended-after 1 (permissions 0 1 1) 1024 ∷ ended-after 32 (permissions 0 1 1) 16896 ∷ ended-after 1 (plain_rule 0 1) 512 ∷ [])
    ∷ map (ended-after 33 (permissions 0 1 1)) (17408 ∷ 32768 ∷ [])
    ∷ map (ended-after 1 (permissions 0 1 1)) (512 ∷ 1023 ∷ [])
    ∷ (ended-after 0 (plain_rule 0 1) 512 ∷ [])
    ∷ [])
    ≡ replicate 3 none ∷ replicate 2 (some (refusal 43 0 0)) ∷ replicate 2 (some (refusal 43 0 0)) ∷ (some (refusal 43 0 0) ∷ []) ∷ []
unfolding opened policies
set_tested = refl

-- "more than 64 blocks": with a second image of 40 blocks, any 33 of them permission blocks, 31 rules fit and 32 do not
pub blocks-tested :
    (second : List ℕ) → length second ≡ 20480 → rule_count second ≡ 7
    → (ended-after 31 second 33280 ≡ none) × (ended-after 32 second 33280 ≡ some (refusal 43 0 0))
unfolding tag_fault good_set unless
blocks-tested second n r = (rw (n, r) refl, rw (n, r) refl)

-- ---- the image

-- the second image: two rules and two permission blocks
abbrev second : List ℕ
second = plain_rule 0 4 ++ plain_rule 1 4 ++ permissions 2 4 1 ++ permissions 3 4 2

-- a rule with a level of each mark, both steps and an exclusion of each kind, and its block's bytes from byte 8 on
abbrev full : Rule
full =
    rule (level 1 1 263 ∷ level 2 2 0 ∷ level 258 3 0 ∷ []) (step 5 260) (step 262 4)
    (privileges 2 (privilege 5 3 ∷ privilege 6 259 ∷ privilege 5 3 ∷ []) ∷ roles 2 (2 ∷ 1 ∷ []) ∷ [])

abbrev full_bytes : List ℕ
full_bytes =
    (3 ∷ 2 ∷ 1 ∷ 1 ∷ zeros 4)
    ++ (1 ∷ 0 ∷ 1 ∷ 0 ∷ 7 ∷ 1 ∷ 0 ∷ 0 ∷ [])
    ++ (2 ∷ 0 ∷ 2 ∷ 0 ∷ 0 ∷ 0 ∷ 0 ∷ 0 ∷ [])
    ++ (2 ∷ 1 ∷ 3 ∷ 0 ∷ 0 ∷ 0 ∷ 0 ∷ 0 ∷ [])
    ++ zeros 8
    ++ (5 ∷ 0 ∷ 4 ∷ 1 ∷ 6 ∷ 1 ∷ 4 ∷ 0 ∷ [])
    ++ (2 ∷ 2 ∷ 3 ∷ 0 ∷ 5 ∷ 0 ∷ 3 ∷ 0 ∷ 6 ∷ 0 ∷ 3 ∷ 1 ∷ 5 ∷ 0 ∷ 3 ∷ 0 ∷ zeros 20)
    ++ (1 ∷ 2 ∷ 2 ∷ 0 ∷ 2 ∷ 0 ∷ 0 ∷ 0 ∷ 1 ∷ 0 ∷ 0 ∷ 0 ∷ zeros 24)

-- "rule blocks, followed by the permission blocks alone of a second lent image, numbered anew"; with no rule, these alone
pub image-of-rules :
    (rules_image (full ∷ []) second ∷ rules_image [] second ∷ [])
    ≡ (sealed (body 1 0 3 full_bytes) ++ permissions 1 3 1 ++ permissions 2 3 2) ∷ (permissions 0 2 1 ++ permissions 1 2 2) ∷ []
unfolding opened policies
image-of-rules = refl

-- "going through the text": tags behind the first byte that is not of the form say nothing
pub tags-before-41 : good_tags (said "<MSoDPolicySet>a</MSoDPolicySet>") ≡ start_set ∷ []
unfolding opened
tags-before-41 = refl
