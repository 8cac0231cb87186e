-- What the worked examples are made of: texts, a list of names, rules, and images in bytes.
-- Assumes nothing.
use Prim.Native.Nat.{ℕ, ◌-◌}
use Prim.Native.String.{String}
use mathlib.Core.Bool.{cond}
use mathlib.Core.List.{List, [], ◌∷◌, ◌++◌, map, flatten}
use lib.ListN.{length, get_or}
use lib.Dec.{eqb}
use Rattle.words.specs.Lists.{keep, any_of, all_below, any_below, sum_below, tab, same_list}
use Rattle.words.specs.First.{◌or_else◌, unless, first}
use Rattle.words.specs.Bytes.{bytes2, bytes4, zeros, zero_from}
use Rattle.words.specs.Sums.{sums, add_words, add_word, words}
use Rattle.format.specs.Answer.{refusing}
use Rattle.format.specs.Block.{good_length, check_of, good_check, sum_bytes, sealed}
use Rattle.format.specs.Rule.{Level, Privilege, Step, Exclusion, Rule, rule_at, good_mark, good_level, blank_level, good_step, good_steps, good_rule, good_roles}
use Rattle.format.specs.Rule.{good_privileges, good_exclusion, blank_exclusion, good_rule_bytes, good_exclusion_at, rule_fault}
use Rattle.format.specs.Policy.{Policy, good_permission, good_permission_bytes, permission_fault, good_policy_header, policy_block_fault, rule_count, policy_of}
use Rattle.forms.specs.Form.{ascii, name_byte, is_of, may_end, hopeless, joined, is_nothing, either, left, lefts, is_of_form, reach, bytes}
use Rattle.xml.specs.Tags.{on_first, ended, parted, squeezed, tags_in, saying, rows, tag_of}
use Rattle.xml.specs.Names.{name_in, good_name, apart, good_names, names_fault, number_of, name_of}
use Rattle.xml.specs.Blocks.{level_image, privilege_image, exclusion_image, rule_image, numbered_anew, permission_blocks, image_of, rules_image}
use Rattle.xml.specs.Read.{listed, or_zero, decimal_from, decimal, privilege_fault, privilege_of, role_fault, role_of, level_texts, level_of, level_fault}
use Rattle.xml.specs.Read.{first_of, nothing_read, exclusion_of, rule_from, rule_of, after_tag, good_set, tag_fault, tags_fault, after_tags, good_tags}
use Rattle.xml.specs.Write.{or_blank, value_text, level_text, context_text, step_text, member_text, exclusion_text, rule_text, rules_text, step_text_fault}
use Rattle.xml.specs.Write.{member_fault, level_names_fault, rule_text_fault}

-- what the examples compute with: of policies, and of the rest
unfoldable pub policies : Unit {0}
unfolding sum_below zero_from sums add_words add_word words good_length check_of good_check sum_bytes sealed rule_at blank_exclusion good_rule_bytes good_exclusion_at rule_fault
    good_permission good_permission_bytes permission_fault good_policy_header policy_block_fault rule_count policy_of
policies = tt

unfoldable pub opened : Unit {0}
unfolding flatten keep any_of all_below any_below tab same_list ◌or_else◌ unless first refusing good_mark good_level blank_level good_step good_steps good_rule good_roles
    good_privileges good_exclusion ascii name_byte is_of may_end hopeless joined is_nothing either left lefts is_of_form reach bytes on_first ended parted squeezed
    tags_in saying rows tag_of name_in good_name apart good_names names_fault number_of name_of level_image privilege_image exclusion_image rule_image numbered_anew
    permission_blocks image_of rules_image listed or_zero decimal_from decimal privilege_fault privilege_of role_fault role_of level_texts level_of level_fault first_of
    nothing_read exclusion_of rule_from rule_of after_tag good_set tag_fault tags_fault after_tags good_tags or_blank value_text level_text
    context_text step_text member_text exclusion_text rule_text rules_text step_text_fault member_fault level_names_fault rule_text_fault
opened = tt

-- the bytes of a text in which ' stands for a double quote
abbrev pub said : String → List ℕ
said s = map (λ b. cond (eqb b 39) 34 b) (ascii s)

-- ---- names

-- an entry of a list: kind, number, name
abbrev pub entry : ℕ → ℕ → String → List ℕ
entry k n w = k ∷ length (ascii w) ∷ bytes2 n ++ ascii w ++ zeros (60 - length (ascii w))

-- types, a value, roles, operations, targets
abbrev pub list : List ℕ
list =
    flatten
    (entry 1 1 "branch"
    ∷ entry 1 2 "period"
    ∷ entry 2 7 "york"
    ∷ entry 3 1 "teller"
    ∷ entry 3 2 "auditor"
    ∷ entry 3 33 "guest"
    ∷ entry 4 5 "count"
    ∷ entry 4 6 "audit"
    ∷ entry 5 3 "till"
    ∷ entry 5 4 "audit"
    ∷ [])

-- ---- rules

-- a level: type, mark, value
abbrev pub level : ℕ → ℕ → ℕ → Level
level t m v = record { type = t; mark = m; pad = 0; value = v; tail = 0 }

-- W4's range: type, low, high
abbrev pub range : ℕ → ℕ → ℕ → Level
range t l h = record { type = t; mark = 4; pad = 0; value = l; tail = h }

abbrev pub privilege : ℕ → ℕ → Privilege
privilege o t = record { operation = o; target = t }

abbrev pub step : ℕ → ℕ → Step
step o t = record { flag = 1; privilege = privilege o t }

abbrev pub unset : Step
unset = record { flag = 0; privilege = privilege 0 0 }

-- an exclusion: kind, m, members; one of roles; one of privileges
abbrev pub exclusion : ℕ → ℕ → List Privilege → Exclusion
exclusion k m ps = record { kind = k; m = m; n = length ps; pad = 0; member = λ i. get_or ps i (privilege 0 0) }

abbrev pub roles : ℕ → List ℕ → Exclusion
roles m ks = exclusion 1 m (map (λ k. privilege k 0) ks)

abbrev pub privileges : ℕ → List Privilege → Exclusion
privileges m ps = exclusion 2 m ps

-- a rule: levels, first and last step, exclusions
abbrev pub rule : List Level → Step → Step → List Exclusion → Rule
rule ls f l xs =
    record {
      depth = length ls;
      exclusions = length xs;
      level = λ i. get_or ls i (level 0 0 0);
      first_step = f;
      last_step = l;
      exclusion = λ e. get_or xs e (exclusion 0 0 []);
    }

-- what a policy of these rules says
abbrev pub policy : List Rule → Policy
policy rs = record { rules = length rs; rule = λ i. get_or rs i (rule [] unset unset []); permissions = [] }

-- ---- images

-- the 504 bytes of a block before its check: kind, number, total, and what follows these, with zeros up to the check
abbrev pub body : ℕ → ℕ → ℕ → List ℕ → List ℕ
body k i n bytes = bytes4 k ++ bytes2 i ++ bytes2 n ++ bytes ++ zeros (496 - length bytes)

-- a block of one permission: role k may do operation 5 on target 3
abbrev pub permissions : ℕ → ℕ → ℕ → List ℕ
permissions i n k = sealed (body 3 i n (bytes2 1 ++ zeros 6 ++ bytes2 k ++ bytes2 5 ++ bytes2 3))

-- a rule of no level with one exclusion, roles 1 and 2 with m 2, as block i of n
abbrev pub plain_rule : ℕ → ℕ → List ℕ
plain_rule i n = sealed (body 1 i n (0 ∷ 1 ∷ zeros 46 ++ (1 ∷ 2 ∷ 2 ∷ 0 ∷ []) ++ bytes2 1 ++ zeros 2 ++ bytes2 2))
