-- Worked examples of the formats: what fits a rule, what is a good request, rule, policy and table, and the number that a bad one gets. Each is broken by
-- one of this crate's must-fail edits. Each definition is altered by an edit, or named in the text that one alters, save these:
-- - refusal_of, fault_of (Code): what a value of the code stands for. No example computes with such a value; the contracts of the checks above use them;
-- - some sizes and offsets of Layout, and capacity: tried one by one, an example breaks if any of them is one more (context_bytes: one less);
-- - blank_level of a request: tried, an example breaks if a level half blank passes for blank;
-- - what only puts together definitions that edits do alter: sealed, permissions_at, level_at, exclusion_at, is_set, marked, record_bytes_at, record_image,
--   block_image, fresh_table, altered, altered_blocks, and the records by where they start (Records). Examples compute with each of them.
-- Assumes nothing.
use Prim.Native.Nat.{ℕ, ◌+◌, ◌-◌, ◌*◌}
use mathlib.Core.Path.{◌≡◌, refl}
use mathlib.Core.Bool.{Bool, true, false}
use mathlib.Core.List.{List, [], ◌∷◌, ◌++◌, map, flatten}
use mathlib.Core.Option.{Option, none, some}
use lib.ListN.{length, get_or, take, replicate}
use lib.Dec.{eqb}
use Rattle.words.specs.Lists.{all_below, any_below, sum_below, tab, same_list}
use Rattle.words.specs.First.{◌or_else◌, unless, first}
use Rattle.words.specs.Bytes.{bytes2, bytes4, zeros, part, zero_from, bit}
use Rattle.words.specs.Sums.{Sums, sums, add_words, add_word, words}
use Rattle.format.specs.Answer.{Refusal, refusal, accept, refuse, accepting, refusing}
use Rattle.format.specs.Layout.{permission_kind}
use Rattle.format.specs.Block.{blocks, block, kind, number, total, good_length, check_of, good_check, sum_bytes, sealed}
use Rattle.format.specs.Request.{Request, user, roles as active_roles, operation, target, has_role, context_of, level_type, level_value, used_level}
use Rattle.format.specs.Request.{blank_level, depth_of, good_context, good_request, request_fault}
use Rattle.format.specs.Context.{context_fault, same_level, begins}
use Rattle.format.specs.Rule.{Rule, Level, Exclusion, Privilege, Step, rule_at, good_mark, good_level, blank_level as blank_rule_level, good_step}
use Rattle.format.specs.Rule.{good_steps, good_rule, good_roles, good_privileges, good_exclusion, blank_exclusion, good_rule_bytes, good_exclusion_at}
use Rattle.format.specs.Rule.{rule_fault}
use Rattle.format.specs.Fits.{fits, level_fits, place, place_value, same_place}
use Rattle.format.specs.Policy.{Policy, permission_at, entries, good_permission, good_permission_bytes, permission_fault, good_policy_header}
use Rattle.format.specs.Policy.{policy_block_fault, policy_fault, rule_count, permissions_at, policy_of, stamp}
use Rattle.format.specs.Table.{Record, count, good_marks, good_record, record_at, gap, good_table_header, good_stamp, table_block_fault, table_length_fault}
use Rattle.format.specs.Table.{table_fault, records_of, record_image, block_image, table_image, fresh_table}
use Rattle.format.specs.Records.{record_start, records_here}
use Rattle.format.specs.Altered.{same_record, same_records, altered, altered_blocks}
use Rattle.format.specs.Calls.{check_policy, check_table, make_table}

-- what these examples compute with
opened : Unit {0}
unfolding flatten all_below any_below sum_below tab same_list ◌or_else◌ unless first zero_from bit sums add_words add_word words accepting refusing good_length
    check_of good_check sum_bytes sealed has_role used_level blank_level depth_of good_context good_request request_fault context_fault same_level begins rule_at good_mark good_level
    blank_rule_level good_step good_steps good_rule good_roles good_privileges good_exclusion blank_exclusion good_rule_bytes good_exclusion_at rule_fault fits
    level_fits place place_value same_place good_permission good_permission_bytes permission_fault good_policy_header policy_block_fault policy_fault rule_count
    permissions_at policy_of stamp good_marks good_record record_at gap good_table_header good_stamp table_block_fault table_length_fault table_fault records_of
    record_image block_image table_image fresh_table records_here same_record same_records altered altered_blocks check_policy check_table make_table
opened = tt

-- ---- requests

-- a context by its levels: type, value, type, value, ..
abbrev context : List ℕ → List ℕ
context levels = flatten (map bytes2 levels) ++ zeros (16 - 2 * length levels)

-- a request: user, roles, operation, target, context
abbrev request : ℕ → ℕ → ℕ → ℕ → List ℕ → Request
request u k o t levels = bytes4 u ++ bytes4 k ++ bytes2 o ++ bytes2 t ++ context levels

-- user 7 in role 1, operation 1 on target 1, in a context
abbrev asked : List ℕ → Request
asked levels = request 7 1 1 1 levels

-- "Used levels come first; the others are zero"; "both numbers of a used level are from 1". Good: no level, one, four, one whose low bytes are zero. Half
-- used: a type with no value, a value with no type, a half-used level after a used one. With a hole: a used level after a blank one, at each depth
pub contexts :
    map (map (λ c. good_context (context c)))
    (([] ∷ (1 ∷ 5 ∷ []) ∷ (1 ∷ 5 ∷ 2 ∷ 90 ∷ 3 ∷ 7 ∷ 4 ∷ 8 ∷ []) ∷ (256 ∷ 256 ∷ []) ∷ [])
    ∷ ((1 ∷ 0 ∷ []) ∷ (0 ∷ 5 ∷ []) ∷ (1 ∷ 5 ∷ 2 ∷ 0 ∷ []) ∷ [])
    ∷ ((0 ∷ 0 ∷ 1 ∷ 5 ∷ []) ∷ (1 ∷ 5 ∷ 0 ∷ 0 ∷ 2 ∷ 90 ∷ []) ∷ (1 ∷ 5 ∷ 2 ∷ 90 ∷ 0 ∷ 0 ∷ 4 ∷ 8 ∷ []) ∷ [])
    ∷ [])
    ≡ replicate 4 true ∷ replicate 3 false ∷ replicate 3 false ∷ []
unfolding opened
contexts = refl

-- "21: length not 28" goes before "22: a field": a byte less, with every field 0; a byte more. Then 22 for user 0, roles 0, operation 0, target 0, a
-- half-used level; and a good one, each field with its highest byte alone
pub requests :
    map (map request_fault)
    ((zeros 27 ∷ (asked [] ++ zeros 1) ∷ [])
    ∷ (request 0 1 1 1 [] ∷ request 7 0 1 1 [] ∷ request 7 1 0 1 [] ∷ request 7 1 1 0 [] ∷ asked (1 ∷ 0 ∷ []) ∷ [])
    ∷ (request 16777216 2147483648 256 256 (256 ∷ 256 ∷ []) ∷ [])
    ∷ [])
    ≡ replicate 2 (some (refusal 21 0 0)) ∷ replicate 5 (some (refusal 22 0 0)) ∷ (none ∷ []) ∷ []
unfolding opened
requests = refl

-- W2, a context by itself: "a length other than 16 gives 21, a bad context 22", in this order. 15 bytes, 17, and 17 with a gap, a request's 28; then 22 for
-- a gap and for a type with no value; and good ones: no level at all, one, four
pub contexts-by-themselves :
    map (map context_fault)
    ((zeros 15 ∷ zeros 17 ∷ (context (0 ∷ 0 ∷ 1 ∷ 5 ∷ []) ++ zeros 1) ∷ asked (1 ∷ 5 ∷ []) ∷ [])
    ∷ (context (0 ∷ 0 ∷ 1 ∷ 5 ∷ []) ∷ context (1 ∷ 0 ∷ []) ∷ [])
    ∷ (context [] ∷ context (1 ∷ 5 ∷ []) ∷ context (1 ∷ 5 ∷ 2 ∷ 90 ∷ 3 ∷ 7 ∷ 4 ∷ 8 ∷ []) ∷ [])
    ∷ [])
    ≡ replicate 4 (some (refusal 21 0 0)) ∷ replicate 2 (some (refusal 22 0 0)) ∷ replicate 3 none ∷ []
unfolding opened
contexts-by-themselves = refl

-- "Every record whose context begins with those levels". Of depot 5, job 90: the same levels, and deeper ones; a shallower context and no level do not, nor
-- the same values under another type, at either level, nor other values. Of four levels, only all four. Of no level, every request
pub beginnings :
    map (map (λ q. begins (context (1 ∷ 5 ∷ 2 ∷ 90 ∷ [])) (asked q)))
    (((1 ∷ 5 ∷ 2 ∷ 90 ∷ []) ∷ (1 ∷ 5 ∷ 2 ∷ 90 ∷ 3 ∷ 7 ∷ []) ∷ (1 ∷ 5 ∷ 2 ∷ 90 ∷ 3 ∷ 7 ∷ 4 ∷ 8 ∷ []) ∷ [])
    ∷ ((1 ∷ 5 ∷ []) ∷ [] ∷ (1 ∷ 5 ∷ 3 ∷ 90 ∷ []) ∷ (4 ∷ 5 ∷ 2 ∷ 90 ∷ []) ∷ (1 ∷ 5 ∷ 2 ∷ 91 ∷ []) ∷ (1 ∷ 6 ∷ 2 ∷ 90 ∷ []) ∷ (2 ∷ 90 ∷ 1 ∷ 5 ∷ []) ∷ [])
    ∷ [])
    ++ (map (λ q. begins (context (1 ∷ 5 ∷ 2 ∷ 90 ∷ 3 ∷ 7 ∷ 4 ∷ 8 ∷ [])) (asked q))
    ((1 ∷ 5 ∷ 2 ∷ 90 ∷ 3 ∷ 7 ∷ 4 ∷ 8 ∷ []) ∷ (1 ∷ 5 ∷ 2 ∷ 90 ∷ 3 ∷ 7 ∷ 4 ∷ 9 ∷ []) ∷ (1 ∷ 5 ∷ 2 ∷ 90 ∷ 3 ∷ 7 ∷ []) ∷ [])
    ∷ map (λ q. begins (context []) (asked q)) ([] ∷ (1 ∷ 5 ∷ []) ∷ (1 ∷ 5 ∷ 2 ∷ 90 ∷ 3 ∷ 7 ∷ 4 ∷ 8 ∷ []) ∷ [])
    ∷ [])
    ≡ replicate 3 true ∷ replicate 7 false ∷ (true ∷ false ∷ false ∷ []) ∷ replicate 3 true ∷ []
unfolding opened
beginnings = refl

-- "role k is bit k - 1": roles 1, 2, 31 and 32 of a request with the roles 1 and 32
pub roles-by-bit : map (λ k. has_role k (request 7 2147483649 1 1 [])) (1 ∷ 2 ∷ 31 ∷ 32 ∷ []) ≡ true ∷ false ∷ false ∷ true ∷ []
unfolding opened
roles-by-bit = refl

-- ---- where the fields stand. Each byte of this block is its own place, and `two` and `four` are the fields of 2 and 4 bytes there

abbrev places : List ℕ
places = tab (λ i. i) 0 256

abbrev two : ℕ → ℕ
two i = i + 256 * (i + 1)

abbrev four : ℕ → ℕ
four i = two i + 65536 * two (i + 2)

-- the rule block: 8, 9, 10, 11; level 2 (24-31) with its type, mark, zero, value, zero; the steps (48-51, 52-55); exclusion 2 (92-127) with its kind, m, n,
-- zero and third member
pub rule-places :
    (let r = rule_at places in
    let x = r.exclusion 1 in
    (r.depth ∷ r.exclusions ∷ r.first_step.flag ∷ r.last_step.flag ∷ [])
    ∷ ((r.level 1).type ∷ (r.level 1).mark ∷ (r.level 1).pad ∷ (r.level 1).value ∷ (r.level 1).tail ∷ [])
    ∷ (r.first_step.privilege.operation ∷ r.first_step.privilege.target ∷ [])
    ∷ (r.last_step.privilege.operation ∷ r.last_step.privilege.target ∷ [])
    ∷ (x.kind ∷ x.m ∷ x.n ∷ x.pad ∷ (x.member 2).operation ∷ (x.member 2).target ∷ [])
    ∷ [])
    ≡ (8 ∷ 9 ∷ 10 ∷ 11 ∷ [])
    ∷ (two 24 ∷ 26 ∷ 27 ∷ two 28 ∷ two 30 ∷ [])
    ∷ (two 48 ∷ two 50 ∷ [])
    ∷ (two 52 ∷ two 54 ∷ [])
    ∷ (92 ∷ 93 ∷ 94 ∷ 95 ∷ two 104 ∷ two 106 ∷ [])
    ∷ []
unfolding opened
rule-places = refl

-- every block: kind, number, total; the number of entries, of records; the third entry (32-39). The request: user, roles, operation, target, and the fourth
-- level of its context
pub other-places :
    (let e = permission_at places 2 in
    let c = context_of places in
    (kind places ∷ number places ∷ total places ∷ entries places ∷ count places ∷ [])
    ∷ (e.role ∷ e.operation ∷ e.target ∷ e.pad ∷ [])
    ∷ (user places ∷ active_roles places ∷ operation places ∷ target places ∷ level_type c 3 ∷ level_value c 3 ∷ [])
    ∷ [])
    ≡ (four 0 ∷ two 4 ∷ two 6 ∷ two 8 ∷ two 8 ∷ [])
    ∷ (two 32 ∷ two 34 ∷ two 36 ∷ two 38 ∷ [])
    ∷ (four 0 ∷ four 4 ∷ two 8 ∷ two 10 ∷ two 24 ∷ two 26 ∷ [])
    ∷ []
unfolding opened
other-places = refl

-- "15 records from byte 24": the second record of a block (56-87), by its block and by its place in a table
pub record-starts :
    (record_at places 1 ∷ records_here places 2)
    ≡ record { request = part places 56 28; marks = four 84 }
    ∷ record { request = part places 24 28; marks = four 52 }
    ∷ record { request = part places 56 28; marks = four 84 }
    ∷ []
unfolding opened
record-starts = refl

-- where the first, the 15th, the 16th and the 17th record of a table begin
pub record-starts-in-turn : map record_start (0 ∷ 14 ∷ 15 ∷ 16 ∷ []) ≡ 24 ∷ 472 ∷ 536 ∷ 568 ∷ []
unfolding opened
record-starts-in-turn = refl

-- ---- rules

-- "Marks: 1 fixed .., 2 every, 3 each"
abbrev level : ℕ → ℕ → ℕ → Level
level t m v = record { type = t; mark = m; pad = 0; value = v; tail = 0 }

abbrev fixed : ℕ → ℕ → Level
fixed t v = level t 1 v

abbrev every : ℕ → Level
every t = level t 2 0

abbrev each : ℕ → Level
each t = level t 3 0

-- W4: mark 4, from a low value to a high one
abbrev range : ℕ → ℕ → ℕ → Level
range t l h = record { type = t; mark = 4; pad = 0; value = l; tail = h }

abbrev privilege : ℕ → ℕ → Privilege
privilege o t = record { operation = o; target = t }

abbrev step : ℕ → ℕ → ℕ → Step
step f o t = record { flag = f; privilege = privilege o t }

abbrev unset : Step
unset = step 0 0 0

-- an exclusion: kind, m, n, members
abbrev exclusion : ℕ → ℕ → ℕ → List Privilege → Exclusion
exclusion k m n ps = record { kind = k; m = m; n = n; pad = 0; member = λ i. get_or ps i (privilege 0 0) }

-- one of roles, one of operations on target 1
abbrev roles : ℕ → ℕ → List ℕ → Exclusion
roles m n ks = exclusion 1 m n (map (λ k. privilege k 0) ks)

abbrev operations : ℕ → ℕ → List ℕ → Exclusion
operations m n os = exclusion 2 m n (map (λ o. privilege o 1) os)

-- a rule: depth, exclusions, levels, first and last step
abbrev rule_with : ℕ → ℕ → List Level → Step → Step → Rule
rule_with d x ls f l =
    record {
      depth = d;
      exclusions = x;
      level = λ i. get_or ls i (level 0 0 0);
      first_step = f;
      last_step = l;
      exclusion = λ e. roles 2 2 (1 ∷ 2 ∷ []);
    }

abbrev rule : List Level → Rule
rule ls = rule_with (length ls) 1 ls unset unset

-- "1 fixed (value 1 to 65535), 2 every, 3 each (value 0)": marks 0 to 4 with the value 0, then with the value 7
pub marks-good :
    (map (λ m. good_mark m 0) (0 ∷ 1 ∷ 2 ∷ 3 ∷ 4 ∷ []) ∷ map (λ m. good_mark m 7) (0 ∷ 1 ∷ 2 ∷ 3 ∷ 4 ∷ []) ∷ [])
    ≡ (false ∷ false ∷ true ∷ true ∷ false ∷ []) ∷ (false ∷ true ∷ false ∷ false ∷ false ∷ []) ∷ []
unfolding opened
marks-good = refl

-- "depth 0 to 4", here with that many levels; "exclusions, 1 to 8": 0, 1, 8, 9
pub rule-sizes :
    (map (λ d. good_rule (rule (take d (fixed 1 5 ∷ each 2 ∷ every 3 ∷ each 4 ∷ each 5 ∷ [])))) (0 ∷ 1 ∷ 4 ∷ 5 ∷ [])
    ∷ map (λ x. good_rule (rule_with 0 x [] unset unset)) (0 ∷ 1 ∷ 8 ∷ 9 ∷ [])
    ∷ [])
    ≡ (true ∷ true ∷ true ∷ false ∷ []) ∷ (false ∷ true ∷ true ∷ false ∷ []) ∷ []
unfolding opened
rule-sizes = refl

-- "levels past the depth are all zero", and those up to it are not: two levels at depth 1, 2 and 3; a mark or a value alone past the depth. "Types of
-- used levels are 1 to 65535", and the zeros of a level are zero
pub rule-levels :
    (map (λ d. good_rule (rule_with d 1 (every 1 ∷ each 2 ∷ []) unset unset)) (1 ∷ 2 ∷ 3 ∷ [])
    ∷ map (λ l. good_rule (rule_with 0 1 (l ∷ []) unset unset)) (level 0 0 0 ∷ level 0 1 0 ∷ level 0 0 1 ∷ [])
    ∷ map (λ l. good_rule (rule (l ∷ [])))
    (every 1
    ∷ every 0
    ∷ record { type = 1; mark = 2; pad = 1; value = 0; tail = 0 }
    ∷ record { type = 1; mark = 2; pad = 0; value = 0; tail = 1 }
    ∷ [])
    ∷ [])
    ≡ (false ∷ true ∷ false ∷ []) ∷ (true ∷ false ∷ false ∷ []) ∷ (true ∷ false ∷ false ∷ false ∷ []) ∷ []
unfolding opened
rule-levels = refl

-- a level whose last two bytes are not zero
abbrev tailed : ℕ → ℕ → Level
tailed m v = record { type = 1; mark = m; pad = 0; value = v; tail = 199 }

-- W4, "A low of 0 or a low above the high gives 4". Good: 100 to 199, one value, all values. Bad: a low of 0, a low one above the high, no high, no type,
-- a byte that is to be zero. With the marks 1 to 3 the last two bytes are zero, and here they are not
pub rule-ranges :
    map (map (λ l. good_rule (rule (l ∷ []))))
    ((range 1 100 199 ∷ range 1 100 100 ∷ range 1 1 65535 ∷ [])
    ∷ (range 1 0 199 ∷ range 1 200 199 ∷ range 1 100 0 ∷ range 0 100 199 ∷ record { type = 1; mark = 4; pad = 1; value = 100; tail = 199 } ∷ [])
    ∷ (tailed 1 100 ∷ tailed 2 0 ∷ tailed 3 0 ∷ [])
    ∷ [])
    ≡ replicate 3 true ∷ replicate 5 false ∷ replicate 3 false ∷ []
unfolding opened
rule-ranges = refl

-- a rule with this first step, and operation 5 on target 1 as its last
abbrev stepped : Step → Bool
stepped f = good_rule (rule_with 0 1 [] f (step 1 5 1))

-- "Set steps have operation and target 1 to 65535 and are not equal"; "zero if not set"; "1 if .. set, else 0". Good: none set, one, two of different
-- operations, two of different targets. Bad: two equal ones; a set one stepped no target, stepped no operation; one not set stepped either; a flag of 2
pub rule-steps :
    ((good_rule (rule []) ∷ stepped unset ∷ stepped (step 1 6 1) ∷ stepped (step 1 5 2) ∷ [])
    ∷ (stepped (step 1 5 1) ∷ stepped (step 1 5 0) ∷ stepped (step 1 0 1) ∷ stepped (step 0 5 0) ∷ stepped (step 0 0 1) ∷ stepped (step 2 6 1) ∷ [])
    ∷ [])
    ≡ replicate 4 true ∷ replicate 6 false ∷ []
unfolding opened
rule-steps = refl

-- "2 <= m <= n <= 8": m and n of 2, 2 and 8, 8; m = 1, m above n, n = 9
pub exclusion-numbers :
    map good_exclusion
    (roles 2 2 (1 ∷ 2 ∷ [])
    ∷ roles 8 8 (1 ∷ 2 ∷ 3 ∷ 4 ∷ 5 ∷ 6 ∷ 7 ∷ 8 ∷ [])
    ∷ roles 1 2 (1 ∷ 2 ∷ [])
    ∷ roles 3 2 (1 ∷ 2 ∷ [])
    ∷ roles 2 9 (1 ∷ 2 ∷ 3 ∷ 4 ∷ 5 ∷ 6 ∷ 7 ∷ 8 ∷ 9 ∷ [])
    ∷ [])
    ≡ true ∷ true ∷ false ∷ false ∷ false ∷ []
unfolding opened
exclusion-numbers = refl

-- "members are roles 1 to 32 (2), zero (2), no role twice": roles 1 and 32; 0; 33; a role twice, side by side and apart; a second number
pub exclusion-roles :
    map good_exclusion
    (roles 2 2 (1 ∷ 32 ∷ [])
    ∷ roles 2 2 (0 ∷ 1 ∷ [])
    ∷ roles 2 2 (1 ∷ 33 ∷ [])
    ∷ roles 2 2 (1 ∷ 1 ∷ [])
    ∷ roles 2 3 (1 ∷ 2 ∷ 1 ∷ [])
    ∷ exclusion 1 2 2 (privilege 1 0 ∷ privilege 2 1 ∷ [])
    ∷ [])
    ≡ true ∷ false ∷ false ∷ false ∷ false ∷ false ∷ []
unfolding opened
exclusion-roles = refl

-- "Kind 2: operation, target, each 1 to 65535; repeats allowed": a repeat; an operation 0; a target 0. "Members past n .. are zero"; there is no kind 0 or 3;
-- the byte after n is zero
pub exclusion-members :
    (map good_exclusion (operations 2 2 (1 ∷ 1 ∷ []) ∷ operations 2 2 (1 ∷ 0 ∷ []) ∷ exclusion 2 2 2 (privilege 1 1 ∷ privilege 2 0 ∷ []) ∷ [])
    ∷ map good_exclusion
    (roles 2 2 (1 ∷ 2 ∷ 3 ∷ [])
    ∷ operations 2 2 (1 ∷ 2 ∷ 3 ∷ [])
    ∷ exclusion 0 2 2 (privilege 1 0 ∷ privilege 2 0 ∷ [])
    ∷ exclusion 3 2 2 (privilege 1 1 ∷ privilege 2 1 ∷ [])
    ∷ record { kind = 1; m = 2; n = 2; pad = 1; member = (roles 2 2 (1 ∷ 2 ∷ [])).member }
    ∷ [])
    ∷ [])
    ≡ (true ∷ false ∷ false ∷ []) ∷ replicate 5 false ∷ []
unfolding opened
exclusion-members = refl

-- ---- which contexts fit a rule, and which share a run place

-- the context of these levels fits a rule of those
abbrev fitting : List Level → List ℕ → Bool
fitting ls c = fits (rule ls) (asked c)

-- "at each rule level, the same type, and for mark 1 the same value": types 1 and 2, each with the values 5 and 6, under each mark; then two levels
-- that fit, and four contexts that fit one of them
pub fits-levels :
    map (λ l. map (λ c. fitting (l ∷ []) c) ((1 ∷ 5 ∷ []) ∷ (1 ∷ 6 ∷ []) ∷ (2 ∷ 5 ∷ []) ∷ [])) (fixed 1 5 ∷ every 1 ∷ each 1 ∷ [])
    ++ (map (fitting (fixed 1 5 ∷ fixed 2 90 ∷ []))
    ((1 ∷ 5 ∷ 2 ∷ 90 ∷ []) ∷ (1 ∷ 5 ∷ 2 ∷ 91 ∷ []) ∷ (1 ∷ 6 ∷ 2 ∷ 90 ∷ []) ∷ (1 ∷ 5 ∷ 3 ∷ 90 ∷ []) ∷ (2 ∷ 90 ∷ 1 ∷ 5 ∷ []) ∷ [])
    ∷ [])
    ≡ (true ∷ false ∷ false ∷ [])
    ∷ (true ∷ true ∷ false ∷ [])
    ∷ (true ∷ true ∷ false ∷ [])
    ∷ (true ∷ false ∷ false ∷ false ∷ false ∷ [])
    ∷ []
unfolding opened
fits-levels = refl

-- W4, "from low to high, both included": depots one below the low, at the low, between, at the high, one above it; job 150; and at the second level of two
pub fits-range :
    (map (λ v. fitting (range 1 100 199 ∷ []) (1 ∷ v ∷ [])) (99 ∷ 100 ∷ 150 ∷ 199 ∷ 200 ∷ [])
    ∷ (fitting (range 1 100 199 ∷ []) (2 ∷ 150 ∷ []) ∷ [])
    ∷ map (λ v. fitting (every 1 ∷ range 2 7 7 ∷ []) (1 ∷ 5 ∷ 2 ∷ v ∷ [])) (6 ∷ 7 ∷ 8 ∷ [])
    ∷ [])
    ≡ (false ∷ true ∷ true ∷ true ∷ false ∷ []) ∷ (false ∷ []) ∷ (false ∷ true ∷ false ∷ []) ∷ []
unfolding opened
fits-range = refl

-- "at least the rule's depth": rules of depth 0 to 4 on a context of four levels, of two, of none
pub fits-depths :
    map (λ c. map (λ d. fitting (take d (every 1 ∷ each 2 ∷ every 3 ∷ each 4 ∷ [])) c) (0 ∷ 1 ∷ 2 ∷ 3 ∷ 4 ∷ []))
    ((1 ∷ 5 ∷ 2 ∷ 90 ∷ 3 ∷ 7 ∷ 4 ∷ 8 ∷ []) ∷ (1 ∷ 5 ∷ 2 ∷ 90 ∷ []) ∷ [] ∷ [])
    ≡ (true ∷ true ∷ true ∷ true ∷ true ∷ []) ∷ (true ∷ true ∷ true ∷ false ∷ false ∷ []) ∷ (true ∷ false ∷ false ∷ false ∷ false ∷ []) ∷ []
unfolding opened
fits-depths = refl

-- "if they agree in value at each mark 3": in both, in one, in the other, in neither; what stands at mark 2 does not matter
pub shared-each :
    map (λ c. same_place (rule (fixed 1 5 ∷ each 2 ∷ every 3 ∷ each 4 ∷ [])) (asked (1 ∷ 5 ∷ 2 ∷ 90 ∷ 3 ∷ 7 ∷ 4 ∷ 8 ∷ [])) (asked c))
    ((1 ∷ 5 ∷ 2 ∷ 90 ∷ 3 ∷ 6 ∷ 4 ∷ 8 ∷ [])
    ∷ (1 ∷ 5 ∷ 2 ∷ 91 ∷ 3 ∷ 7 ∷ 4 ∷ 8 ∷ [])
    ∷ (1 ∷ 5 ∷ 2 ∷ 90 ∷ 3 ∷ 7 ∷ 4 ∷ 9 ∷ [])
    ∷ (1 ∷ 5 ∷ 2 ∷ 8 ∷ 3 ∷ 7 ∷ 4 ∷ 90 ∷ [])
    ∷ [])
    ≡ true ∷ false ∷ false ∷ false ∷ []
unfolding opened
shared-each = refl

-- trap "treating "every" as "each"": jobs of the depots 5 and 6 share a run place under "depot every" and under no level, not under "depot each"; jobs 90
-- and 91 of one depot share it under "depot each", whose depth they pass
pub shared-every :
    (map (λ ls. same_place (rule ls) (asked (1 ∷ 5 ∷ 2 ∷ 90 ∷ [])) (asked (1 ∷ 6 ∷ 2 ∷ 90 ∷ []))) ((every 1 ∷ []) ∷ [] ∷ (each 1 ∷ []) ∷ [])
    ∷ map (λ c. same_place (rule (each 1 ∷ [])) (asked (1 ∷ 5 ∷ 2 ∷ 90 ∷ [])) (asked c)) ((1 ∷ 5 ∷ 2 ∷ 91 ∷ []) ∷ (1 ∷ 5 ∷ []) ∷ [])
    ∷ [])
    ≡ (true ∷ true ∷ false ∷ []) ∷ (true ∷ true ∷ []) ∷ []
unfolding opened
shared-every = refl

-- W4, "All values in the range share a run place": depots 100 and 199 for one job; but two jobs do not, where job is "each"
pub shared-range :
    map (λ c. same_place (rule (range 1 100 199 ∷ each 2 ∷ [])) (asked (1 ∷ 100 ∷ 2 ∷ 90 ∷ [])) (asked c))
    ((1 ∷ 199 ∷ 2 ∷ 90 ∷ []) ∷ (1 ∷ 199 ∷ 2 ∷ 91 ∷ []) ∷ [])
    ≡ true ∷ false ∷ []
unfolding opened
shared-range = refl

-- ---- policy blocks. A byte that a list here does not have reads as zero, so these blocks are written up to their last byte that is not zero

-- a block's kind, number and total
abbrev head : ℕ → ℕ → ℕ → List ℕ
head k i n = bytes4 k ++ bytes2 i ++ bytes2 n

-- a rule block: number, total, what stands from byte 8 on (depth, exclusions, ..), what stands from byte 56 on
abbrev rule_bytes : ℕ → ℕ → List ℕ → List ℕ → List ℕ
rule_bytes k n ds xs = head 1 k n ++ ds ++ zeros (48 - length ds) ++ xs

-- an exclusion of the roles 1 and 2, its m to be said
abbrev pair : ℕ → List ℕ
pair m = (1 ∷ m ∷ 2 ∷ 0 ∷ []) ++ flatten (map bytes4 (1 ∷ 2 ∷ [])) ++ zeros 24

-- a permission block: number, total, entries, what stands from byte 16 on
abbrev permission_bytes : ℕ → ℕ → ℕ → List ℕ → List ℕ
permission_bytes k n es xs = head 3 k n ++ bytes2 es ++ zeros 6 ++ xs

-- an entry: role, operation, target
abbrev entry : ℕ → ℕ → ℕ → List ℕ
entry k o t = bytes2 k ++ bytes2 o ++ bytes2 t ++ zeros 2

-- "4: rule's other bytes": depth 5, no exclusion, byte 12, byte 344; and before 5: depth 5 with m = 1
pub rule-other-bytes :
    map (rule_fault 7)
    (rule_bytes 7 9 (5 ∷ 1 ∷ []) (pair 2)
    ∷ rule_bytes 7 9 (0 ∷ 0 ∷ []) (pair 2)
    ∷ rule_bytes 7 9 (0 ∷ 1 ∷ 0 ∷ 0 ∷ 1 ∷ []) (pair 2)
    ∷ rule_bytes 7 9 (0 ∷ 1 ∷ []) (pair 2 ++ zeros 252 ++ (1 ∷ []))
    ∷ rule_bytes 7 9 (5 ∷ 1 ∷ []) (pair 1)
    ∷ [])
    ≡ replicate 5 (some (refusal 4 7 0))
unfolding opened
rule-other-bytes = refl

-- "5: an exclusion", the first bad one from 1: the second and third of three have m = 1 ("m = 1 gives 5"); "one past the number that is not zero", the last
-- byte of the eighth
pub rule-exclusions-in-turn :
    map (rule_fault 7)
    (rule_bytes 7 9 (0 ∷ 3 ∷ []) (pair 2 ++ pair 1 ++ pair 1) ∷ rule_bytes 7 9 (0 ∷ 1 ∷ []) (pair 2 ++ zeros 251 ++ (1 ∷ [])) ∷ [])
    ≡ some (refusal 5 7 2) ∷ some (refusal 5 7 8) ∷ []
unfolding opened
rule-exclusions-in-turn = refl

-- an entry's fields: "role 1 to 32, operation, target (each 1 to 65535), zero"
pub entries-good :
    map (λ e. good_permission (permission_at (permission_bytes 7 9 1 e) 0))
    (entry 1 1 1 ∷ entry 32 256 256 ∷ entry 0 1 1 ∷ entry 33 1 1 ∷ entry 1 0 1 ∷ entry 1 1 0 ∷ (bytes2 1 ++ bytes2 1 ++ bytes2 1 ++ bytes2 1) ∷ [])
    ≡ true ∷ true ∷ false ∷ false ∷ false ∷ false ∷ false ∷ []
unfolding opened
entries-good = refl

-- "6: a permission block's other bytes": the first bad entry from 1, here the second and third of three, the second and all after it of 61. "a fault outside
-- the counted entries, bytes after them too, gives 0 and comes first": 62 entries; byte 10; an entry more; and a bad one before it
pub permission-faults :
    map (map (permission_fault 7))
    ((permission_bytes 7 9 3 (entry 1 1 1 ++ entry 0 1 1 ++ entry 0 1 1) ∷ permission_bytes 7 9 61 (entry 1 1 1) ∷ [])
    ∷ (permission_bytes 7 9 62 []
    ∷ (head 3 7 9 ++ bytes2 0 ++ (1 ∷ []))
    ∷ permission_bytes 7 9 1 (entry 1 1 1 ++ entry 1 1 1)
    ∷ permission_bytes 7 9 1 (entry 0 1 1 ++ entry 1 1 1)
    ∷ [])
    ∷ [])
    ≡ replicate 2 (some (refusal 6 7 2)) ∷ replicate 4 (some (refusal 6 7 0)) ∷ []
unfolding opened
permission-faults = refl

-- ---- policies

-- a block's first 504 bytes, of those before its zeros; a block with its check, and one with zeros for it
abbrev body : List ℕ → List ℕ
body b = b ++ zeros (504 - length b)

abbrev whole : List ℕ → List ℕ
whole b = sealed (body b)

abbrev unsealed : List ℕ → List ℕ
unsealed b = body b ++ zeros 8

-- "The block stores a, then b": both are right, a alone is, b alone is, they are turned round
pub checks :
    map (λ z. good_check (zeros 504 ++ z))
    ((bytes4 1 ++ bytes4 126) ∷ (bytes4 1 ++ zeros 4) ∷ (zeros 4 ++ bytes4 126) ∷ (bytes4 126 ++ bytes4 1) ∷ [])
    ≡ true ∷ false ∷ false ∷ false ∷ []
unfolding opened
checks = refl

-- "1: length not 512 times 1 to 64", "11: length not 512 times 1 to 128", whatever the bytes (`s n` are any n): no block, less than one, one and a byte, one
-- too many; the most that pass
pub lengths :
    (s : ℕ → List ℕ) → ((n : ℕ) → length (s n) ≡ n)
    → (map (λ n. policy_fault (s n)) (0 ∷ 511 ∷ 513 ∷ 33280 ∷ [])
    ∷ map (λ n. table_length_fault (s n)) (0 ∷ 511 ∷ 513 ∷ 66048 ∷ 65536 ∷ [])
    ∷ [])
    ≡ replicate 4 (some (refusal 1 0 0)) ∷ (replicate 4 (some (refusal 11 0 0)) ++ (none ∷ [])) ∷ []
unfolding policy_fault table_length_fault good_length unless ◌or_else◌
lengths s h = rw (h 0, h 511, h 513, h 33280, h 66048, h 65536) refl

-- "3: kind, number, total": a good header; a table's block, the wrong number, the wrong total
pub policies-header :
    map (λ b. good_policy_header (unsealed b) 0) (head 1 0 1 ∷ head 2 0 1 ∷ head 1 1 1 ∷ head 1 0 2 ∷ []) ≡ true ∷ false ∷ false ∷ false ∷ []
unfolding opened
policies-header = refl

-- "rule after permission": block 3 after permission blocks 1 and 2; blocks 0 to 2 are well
pub policies-rule-after-permission :
    map (good_policy_header (flatten (map unsealed (head 1 0 4 ∷ head 3 1 4 ∷ head 3 2 4 ∷ head 1 3 4 ∷ [])))) (0 ∷ 1 ∷ 2 ∷ 3 ∷ [])
    ≡ true ∷ true ∷ true ∷ false ∷ []
unfolding opened
policies-rule-after-permission = refl

-- "or rule 33", which would be block 32: in any image of 33 blocks, block 31 behind rules may be a rule, block 32 may not
module _ (s : List ℕ) (n : blocks s ≡ 33) where
  pub policies-rule-32 :
      number (block s 31) ≡ 31 → total (block s 31) ≡ 33 → kind (block s 31) ≡ 1
      → any_below 31 (λ j. eqb (kind (block s j)) permission_kind) ≡ false
      → good_policy_header s 31 ≡ true
  unfolding good_policy_header
  policies-rule-32 i t k a = cc

  pub policies-rule-33 : number (block s 32) ≡ 32 → total (block s 32) ≡ 33 → kind (block s 32) ≡ 1 → good_policy_header s 32 ≡ false
  unfolding good_policy_header
  policies-rule-33 i t k = cc

-- "numbers within a block upwards": a wrong check in a block with the wrong kind, number and total; a wrong number of a rule of depth 5
pub policies-numbers-upwards :
    map policy_fault (unsealed (head 9 9 9) ∷ whole (rule_bytes 7 1 (5 ∷ 1 ∷ []) (pair 2)) ∷ []) ≡ some (refusal 2 0 0) ∷ some (refusal 3 0 0) ∷ []
unfolding opened
policies-numbers-upwards = refl

-- "each block in turn", in any image of two: the first block's fault, whatever the second is; else the second's; else none
module _ (s : List ℕ) (n : length s ≡ 1024) where
  pub policies-in-turn :
      ((r : Refusal) → policy_block_fault s 0 ≡ some r → policy_fault s ≡ some r)
      × (policy_block_fault s 0 ≡ none → ((r : Refusal) → policy_block_fault s 1 ≡ some r → policy_fault s ≡ some r) × (policy_block_fault s 1 ≡ none → policy_fault s ≡ none))
  unfolding policy_fault good_length unless ◌or_else◌ first
  policies-in-turn = ((λ r a. rw (n, a) refl), λ a. ((λ r b. rw (n, a, b) refl), λ b. rw (n, a, b) refl))

-- a policy of one rule and one permission: depot (type 1) each, roles m 2 of 1, 2; role 1 may do 2 on 3
abbrev depots : List ℕ
depots =
    whole (rule_bytes 0 2 (1 ∷ 1 ∷ 0 ∷ 0 ∷ 0 ∷ 0 ∷ 0 ∷ 0 ∷ 1 ∷ 0 ∷ 3 ∷ []) (pair 2)) ++ whole (permission_bytes 1 2 1 (entry 1 2 3))

-- it passes its check, computed once: a rule block and a permission block, whole
pub depots-pass : policy_fault depots ≡ none
unfolding opened
depots-pass = refl

-- what a policy says: "Rule r (from 1) is block r - 1", here with 1 and 2 exclusions, then two permission blocks of one entry each
pub policies-read :
    (let p = policy_of (flatten (map unsealed (rule_bytes 0 4 (0 ∷ 1 ∷ []) [] ∷ rule_bytes 1 4 (0 ∷ 2 ∷ []) [] ∷ permission_bytes 2 4 1 (entry 1 2 3) ∷ permission_bytes 3 4 1 (entry 4 5 6) ∷ []))) in
    (p.rules ∷ (p.rule 0).exclusions ∷ (p.rule 1).exclusions ∷ []) ∷ map (λ e. e.role) p.permissions ∷ [])
    ≡ (2 ∷ 1 ∷ 2 ∷ []) ∷ (1 ∷ 4 ∷ []) ∷ []
unfolding opened
policies-read = refl

-- ---- tables

-- a table block: number, total, count, stamp, what stands from byte 24 on
abbrev table_bytes : ℕ → ℕ → ℕ → Sums → List ℕ → List ℕ
table_bytes k n c t rs = head 2 k n ++ bytes2 c ++ zeros 6 ++ sum_bytes t ++ rs

-- a stamp of a = 3, b = 4
abbrev stamped : Sums
stamped = record { a = 3; b = 4 }

-- a record: a context and marks
abbrev kept : List ℕ → ℕ → List ℕ
kept c marks = asked c ++ bytes4 marks

-- so many good records
abbrev good : ℕ → List ℕ
good n = flatten (replicate n (kept (1 ∷ 5 ∷ []) 1))

-- two rules: depot each; job (type 2) every
abbrev two_rules : Policy
two_rules = record { rules = 2; rule = λ i. get_or (rule (each 1 ∷ []) ∷ rule (every 2 ∷ []) ∷ []) i (rule []); permissions = [] }

-- "A good record is a good request with marks not zero, only for rules its context fits": under the two rules, marks 1, 2, 3, 4 and 0 at a depot; mark 2
-- at a job; mark 1 and the highest at a depot; a bad request
pub records-good :
    map (λ r. good_record two_rules (record_at (zeros 24 ++ r) 0))
    (kept (1 ∷ 5 ∷ []) 1
    ∷ kept (1 ∷ 5 ∷ []) 2
    ∷ kept (1 ∷ 5 ∷ []) 3
    ∷ kept (1 ∷ 5 ∷ []) 4
    ∷ kept (1 ∷ 5 ∷ []) 0
    ∷ kept (2 ∷ 90 ∷ []) 2
    ∷ kept (1 ∷ 5 ∷ []) 2147483649
    ∷ kept (1 ∷ 5 ∷ 2 ∷ 0 ∷ []) 1
    ∷ [])
    ≡ true ∷ false ∷ false ∷ false ∷ false ∷ true ∷ false ∷ false ∷ []
unfolding opened
records-good = refl

-- "13: kind, number, total, count, .. spare bytes": good are 15 records; bad are a permission block, a wrong number, a wrong total, 16 records, byte 10,
-- a byte after the records
pub tables-header :
    map (map (λ b. good_table_header (unsealed b) 0))
    ((table_bytes 0 1 15 stamped (good 15) ∷ [])
    ∷ (head 3 0 1
    ∷ table_bytes 1 1 0 stamped []
    ∷ table_bytes 0 2 0 stamped []
    ∷ table_bytes 0 1 16 stamped (good 15)
    ∷ (head 2 0 1 ++ bytes2 0 ++ (1 ∷ []))
    ∷ table_bytes 0 1 1 stamped (good 1 ++ (1 ∷ []))
    ∷ [])
    ∷ [])
    ≡ (true ∷ []) ∷ replicate 6 false ∷ []
unfolding opened
tables-header = refl

-- "A gap belongs to a block that has records after one with fewer than 15": which of four blocks have one, by how many records each block has; then the
-- second block of two, after one of 15 and one of 14
pub tables-gap :
    (map (λ ns. map (gap (flatten (map (λ n. zeros 8 ++ bytes2 n ++ zeros 502) ns))) (0 ∷ 1 ∷ 2 ∷ 3 ∷ []))
    ((15 ∷ 15 ∷ 3 ∷ 0 ∷ []) ∷ (15 ∷ 0 ∷ 3 ∷ 0 ∷ []) ∷ (0 ∷ 15 ∷ 15 ∷ 0 ∷ []) ∷ [])
    ++ (map (λ n. good_table_header (unsealed (table_bytes 0 2 n stamped []) ++ unsealed (table_bytes 1 2 15 stamped [])) 1) (15 ∷ 14 ∷ []) ∷ []))
    ≡ (false ∷ false ∷ false ∷ false ∷ []) ∷ (false ∷ false ∷ true ∷ false ∷ []) ∷ (false ∷ true ∷ true ∷ false ∷ []) ∷ (true ∷ false ∷ []) ∷ []
unfolding opened
tables-gap = refl

-- "16-23 the stamp, a then b": both are right; a alone is; b alone is; they are turned round
pub stamps-good :
    map (λ t. good_stamp stamped (zeros 16 ++ t))
    ((bytes4 3 ++ bytes4 4) ∷ (bytes4 3 ++ bytes4 5) ∷ (bytes4 5 ++ bytes4 4) ∷ (bytes4 4 ++ bytes4 3) ∷ [])
    ≡ true ∷ false ∷ false ∷ false ∷ []
unfolding opened
stamps-good = refl

-- "The stamp of a policy is the same sum over all words of its image, checks included": of 128 words, 1, 125 zeros, 2, 3
pub stamp-of-all-words : stamp (bytes4 1 ++ zeros 500 ++ bytes4 2 ++ bytes4 3) ≡ record { a = 7; b = 263 }
unfolding opened
stamp-of-all-words = refl

-- "numbers within a block upwards", "the first bad .. record": a full block whose second and last records are marked for a rule that does not fit, with a
-- wrong check, kind and stamp; with a wrong kind and stamp; with a wrong stamp; with none of these. Then a good block of 14
pub tables-numbers-upwards :
    (let bad = good 1 ++ kept (2 ∷ 5 ∷ []) 1 ++ good 12 ++ kept (2 ∷ 5 ∷ []) 1 in
    map (λ s. table_block_fault two_rules stamped s 0)
    (unsealed (head 9 9 9 ++ bytes2 15 ++ zeros 14 ++ bad)
    ∷ whole (head 9 0 1 ++ bytes2 15 ++ zeros 14 ++ bad)
    ∷ whole (table_bytes 0 1 15 (record { a = 3; b = 5 }) bad)
    ∷ whole (table_bytes 0 1 15 stamped bad)
    ∷ whole (table_bytes 0 1 14 stamped (good 14))
    ∷ []))
    ≡ some (refusal 12 0 0) ∷ some (refusal 13 0 0) ∷ some (refusal 14 0 0) ∷ some (refusal 15 0 2) ∷ none ∷ []
unfolding opened
tables-numbers-upwards = refl

-- "each block in turn", in any image of two under a policy's rules and stamp: the first block's fault, whatever the second is; else the second's; else none
module _ (policy s : List ℕ) (n : length s ≡ 1024) where
  abbrev fault : ℕ → Option Refusal
  fault k = table_block_fault (policy_of policy) (stamp policy) s k

  pub tables-in-turn :
      ((r : Refusal) → fault 0 ≡ some r → table_fault policy s ≡ some r)
      × (fault 0 ≡ none → ((r : Refusal) → fault 1 ≡ some r → table_fault policy s ≡ some r) × (fault 1 ≡ none → table_fault policy s ≡ none))
  unfolding table_fault table_length_fault good_length unless ◌or_else◌ first
  tables-in-turn = ((λ r a. rw (n, a) refl), λ a. ((λ r b. rw (n, a, b) refl), λ b. rw (n, a, b) refl))

-- "Records fill the blocks from the front with no gap": 16 records in three blocks, each with its count, its number and the
-- total, and the records read back
pub tables-filled :
    (let s = table_image stamped 3 (replicate 16 (record { request = asked (1 ∷ 5 ∷ []); marks = 1 })) in
    map (λ f. map (λ k. f (block s k)) (0 ∷ 1 ∷ 2 ∷ [])) (count ∷ number ∷ total ∷ []) ++ (map (λ r. r.marks) (records_of s) ∷ part s 536 32 ∷ []))
    ≡ (15 ∷ 1 ∷ 0 ∷ []) ∷ (0 ∷ 1 ∷ 2 ∷ []) ∷ (3 ∷ 3 ∷ 3 ∷ []) ∷ replicate 16 1 ∷ good 1 ∷ []
unfolding opened
tables-filled = refl

-- ---- which blocks have other records

-- a record of a request of one byte, and its marks; so many alike; so many with the requests from x on
abbrev recorded : ℕ → ℕ → Record
recorded x m = record { request = x ∷ []; marks = m }

abbrev alike : ℕ → List Record
alike n = replicate n (recorded 1 1)

abbrev running : ℕ → ℕ → List Record
running x n = tab (λ i. recorded i 1) x n

-- "the request and 4 bytes of marks": a record beside itself, one of another request, of a longer one, of other marks
pub same-record :
    map (same_record (recorded 1 3)) (recorded 1 3 ∷ recorded 2 3 ∷ record { request = 1 ∷ 0 ∷ []; marks = 3 } ∷ recorded 1 1 ∷ [])
    ≡ true ∷ false ∷ false ∷ false ∷ []
unfolding opened
same-record = refl

-- records 1, 2 beside themselves, 1 alone, 1 to 3, and 2, 1
pub same-records :
    map (same_records (running 1 2)) (running 1 2 ∷ running 1 1 ∷ running 1 3 ∷ (recorded 2 1 ∷ recorded 1 1 ∷ []) ∷ [])
    ≡ true ∷ false ∷ false ∷ false ∷ []
unfolding opened
same-records = refl

-- 31 records alike, in three blocks, become: the same; 30, whichever of them has gone; 14; the same with another request in the first, with other marks
pub blocks-altered :
    map (λ rs. map (altered (alike 31) rs) (0 ∷ 1 ∷ 2 ∷ []))
    (alike 31 ∷ alike 30 ∷ alike 14 ∷ (recorded 2 1 ∷ alike 30) ∷ (recorded 1 2 ∷ alike 30) ∷ [])
    ≡ replicate 3 false ∷ (false ∷ false ∷ true ∷ []) ∷ replicate 3 true ∷ replicate 2 (true ∷ false ∷ false ∷ [])
unfolding opened
blocks-altered = refl

-- "the number whose records differ": 31 that differ become the same; all but the first; all but the last; all but the first and one more; all but the last,
-- and the first has other marks. Then 15 become 16
pub blocks-counted :
    (map (altered_blocks 3 (running 1 31)) (running 1 31 ∷ running 2 30 ∷ running 1 30 ∷ running 2 31 ∷ (recorded 1 2 ∷ running 2 29) ∷ [])
    ++ (altered_blocks 3 (running 1 15) (running 1 16) ∷ []))
    ≡ 0 ∷ 3 ∷ 1 ∷ 3 ∷ 2 ∷ 1 ∷ []
unfolding opened
blocks-counted = refl

-- ---- the calls

-- "Acceptance returns a policy's rules, a table's records", of any policy that passes and any table that passes under it
pub policies-good : (policy : List ℕ) → policy_fault policy ≡ none → check_policy policy ≡ accept (rule_count policy)
unfolding check_policy accepting
policies-good policy p = rw p refl

pub tables-good :
    (policy table : List ℕ) → policy_fault policy ≡ none → table_fault policy table ≡ none → check_table policy table ≡ accept (length (records_of table))
unfolding check_table accepting ◌or_else◌
tables-good policy table p t = rw (p, t) refl

-- "check a table under a policy, make a fresh table in a lent buffer (1 to 6, then 11)": the policy's numbers before the table's
pub calls-refused : (check_table [] [] ∷ (make_table [] (7 ∷ [])).answer ∷ []) ≡ replicate 2 (refuse (refusal 1 0 0))
unfolding opened
calls-refused = refl

-- then the table's, under any policy that passes; "a refusal alters nothing lent"
pub buffer-stays : (policy : List ℕ) → policy_fault policy ≡ none → make_table policy (7 ∷ []) ≡ record { answer = refuse (refusal 11 0 0); state = 7 ∷ [] }
unfolding make_table table_length_fault good_length unless ◌or_else◌ refusing
buffer-stays policy h = rw h refl

-- "a fresh table's places (15 times B)", "A fresh table has no record": a block with its number, the total, the policy's stamp and its check
pub tables-fresh :
    (policy : List ℕ) → policy_fault policy ≡ none → stamp policy ≡ stamped
    → make_table policy (zeros 512) ≡ record { answer = accept 15; state = whole (table_bytes 0 1 0 stamped []) }
unfolding make_table table_length_fault good_length unless ◌or_else◌ refusing fresh_table table_image block_image tab flatten record_image sealed sum_bytes sums words
    add_words add_word
tables-fresh policy h t = rw (h, t) refl
