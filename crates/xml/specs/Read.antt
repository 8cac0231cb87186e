-- Reading: "Convert that text to rule blocks, followed by the permission blocks alone of a second lent image, numbered anew."
-- Assumes nothing.
use Rattle.std.specs.Prelude.{ℕ, ◌+◌, ◌-◌, ◌*◌, Bool, cond, ◌&&◌, List, [], ◌∷◌, ◌++◌, map, length, take, get_or, leb}
use Rattle.std.proofs.Math.Option.{Option, none, some}
use Rattle.words.specs.Lists.{same_list}
use Rattle.words.specs.First.{◌or_else◌, unless}
use Rattle.format.specs.Answer.{Refusal, refusal}
use Rattle.format.specs.Layout.{block_bytes, highest_role, most_rules, policy_blocks}
use Rattle.format.specs.Block.{blocks}
use Rattle.format.specs.Rule.{Level, Privilege, Step, Exclusion, Rule, good_rule, good_exclusion}
use Rattle.format.specs.Policy.{rule_count}
use Rattle.forms.specs.Form.{reach}
use Rattle.xml.specs.Grammar.{set}
use Rattle.xml.specs.Tags.{parted, Tag, start_set, end_set, start_rule, end_rule, first_step, last_step, start_exclusion, end_exclusion, role, privilege, other, tags_in, tag_of}
use Rattle.xml.specs.Names.{type_names, value_names, role_names, operation_names, target_names, number_of}

-- ---- names and limits

-- "42 for a name .. not listed", "43 for what breaks document 01's limits", each with 0, 0
unfoldable pub listed : {A : Type 0} → Option A → Option Refusal
listed none = some (refusal 42 0 0)
listed (some a) = none

abbrev pub within : Bool → Option Refusal
within good = unless good (refusal 43 0 0)

-- the number that was found; 0 if none
unfoldable pub or_zero : Option ℕ → ℕ
or_zero none = 0
or_zero (some n) = n

-- the number of a row of digits, after n before them
unfoldable pub decimal_from : ℕ → List ℕ → ℕ
decimal_from n [] = n
decimal_from n (b ∷ t) = decimal_from (10 * n + (b - 48)) t

unfoldable pub decimal : List ℕ → ℕ
decimal t = decimal_from 0 t

-- ---- steps and members

abbrev pub blank_privilege : Privilege
blank_privilege = record { operation = 0; target = 0 }

-- an operation's and a target's name
unfoldable pub privilege_fault : List ℕ → List ℕ → List ℕ → Option Refusal
privilege_fault l o t = listed (number_of l operation_names o) or_else listed (number_of l target_names t)

unfoldable pub privilege_of : List ℕ → List ℕ → List ℕ → Privilege
privilege_of l o t = record { operation = or_zero (number_of l operation_names o); target = or_zero (number_of l target_names t) }

-- a role's name, and "roles 1 to 32"; the member of a role
unfoldable pub role_fault : List ℕ → List ℕ → Option Refusal
role_fault l v = listed (number_of l role_names v) or_else within (leb (or_zero (number_of l role_names v)) highest_role)

unfoldable pub role_of : List ℕ → List ℕ → Privilege
role_of l v = record { operation = or_zero (number_of l role_names v); target = 0 }

-- "1 if a first, a last step is set"
abbrev pub step_of : Privilege → Step
step_of p = record { flag = 1; privilege = p }

abbrev pub no_step : Step
no_step = record { flag = 0; privilege = blank_privilege }

-- ---- levels

-- the levels of a context, each as its type and its value; "levels .. may be any in number, none too": an empty context has none
unfoldable pub level_texts : List ℕ → List (List (List ℕ))
level_texts [] = []
level_texts (b ∷ t) = map (parted 61) (parted 44 (b ∷ t))

-- `*` and `!` by themselves
abbrev pub is_every : List ℕ → Bool
is_every v = same_list v (42 ∷ [])

abbrev pub is_each : List ℕ → Bool
is_each v = same_list v (33 ∷ [])

abbrev pub level_from : ℕ → ℕ → ℕ → Level
level_from t m v = record { type = t; mark = m; pad = 0; value = v; tail = 0 }

-- "A value of * is mark 2, ! is mark 3, a name mark 1."
unfoldable pub level_of : List ℕ → List (List ℕ) → Level
level_of l p =
    let t = or_zero (number_of l type_names (get_or p 0 [])) in
    let v = get_or p 1 [] in
    cond (is_every v) (level_from t 2 0) (cond (is_each v) (level_from t 3 0) (level_from t 1 (or_zero (number_of l value_names v))))

unfoldable pub level_fault : List ℕ → List (List ℕ) → Option Refusal
level_fault l p =
    let v = get_or p 1 [] in
    listed (number_of l type_names (get_or p 0 []))
    or_else cond (is_every v) none (cond (is_each v) none (listed (number_of l value_names v)))

-- the first fault of a list's elements
unfoldable pub first_of : {A : Type 0} → (A → Option Refusal) → List A → Option Refusal
first_of f [] = none
first_of f (x ∷ xs) = f x or_else first_of f xs

-- ---- what has been read

-- of the exclusion that is being read: its kind, m and the members so far
pub record Members : Type 0 where
  pub kind : ℕ
  pub m : ℕ
  pub members : List Privilege

-- of the rule that is being read: its context's text, its steps, and the exclusions that have ended
pub record Draft : Type 0 where
  pub context : List ℕ
  pub first : Step
  pub last : Step
  pub exclusions : List Exclusion

-- the rules that have ended, and what is being read
pub record Reading : Type 0 where
  pub rules : List Rule
  pub rule : Draft
  pub exclusion : Members

abbrev pub new_members : ℕ → ℕ → Members
new_members k m = record { kind = k; m = m; members = [] }

abbrev pub new_draft : List ℕ → Draft
new_draft c = record { context = c; first = no_step; last = no_step; exclusions = [] }

unfoldable pub nothing_read : Reading
nothing_read = record { rules = []; rule = new_draft []; exclusion = new_members 0 0 }

-- the exclusion that ends now; members past their number are zero
unfoldable pub exclusion_of : Members → Exclusion
exclusion_of x =
    record { kind = x.kind; m = x.m; n = length x.members; pad = 0; member = λ i. get_or x.members i blank_privilege }

-- the rule that ends now, with these levels; levels and exclusions past their number are zero
unfoldable pub rule_from : List Level → Draft → Rule
rule_from ls d =
    record {
      depth = length ls;
      exclusions = length d.exclusions;
      level = λ i. get_or ls i (level_from 0 0 0);
      first_step = d.first;
      last_step = d.last;
      exclusion = λ e. get_or d.exclusions e (exclusion_of (new_members 0 0));
    }

unfoldable pub rule_of : List ℕ → Draft → Rule
rule_of l d = rule_from (map (level_of l) (level_texts d.context)) d

-- a member more; an exclusion, a rule that has ended
abbrev pub with_member : Members → Privilege → Members
with_member x p = record { kind = x.kind; m = x.m; members = x.members ++ p ∷ [] }

abbrev pub with_exclusion : Draft → Exclusion → Draft
with_exclusion d x = record { context = d.context; first = d.first; last = d.last; exclusions = d.exclusions ++ x ∷ [] }

abbrev pub with_first : Draft → Privilege → Draft
with_first d p = record { context = d.context; first = step_of p; last = d.last; exclusions = d.exclusions }

abbrev pub with_last : Draft → Privilege → Draft
with_last d p = record { context = d.context; first = d.first; last = step_of p; exclusions = d.exclusions }

abbrev pub in_rule : Reading → Draft → Reading
in_rule s d = record { rules = s.rules; rule = d; exclusion = s.exclusion }

abbrev pub in_exclusion : Reading → Members → Reading
in_exclusion s x = record { rules = s.rules; rule = s.rule; exclusion = x }

-- what a tag does to it
unfoldable pub after_tag : List ℕ → Reading → Tag → Reading
after_tag l s start_set = s
after_tag l s end_set = s
after_tag l s (start_rule c) = in_rule s (new_draft c)
after_tag l s end_rule = record { rules = s.rules ++ rule_of l s.rule ∷ []; rule = new_draft []; exclusion = s.exclusion }
after_tag l s (first_step o t) = in_rule s (with_first s.rule (privilege_of l o t))
after_tag l s (last_step o t) = in_rule s (with_last s.rule (privilege_of l o t))
after_tag l s (start_exclusion k d) = in_exclusion s (new_members k (decimal d))
after_tag l s end_exclusion =
    record { rules = s.rules; rule = with_exclusion s.rule (exclusion_of s.exclusion); exclusion = new_members 0 0 }
after_tag l s (role v) = in_exclusion s (with_member s.exclusion (role_of l v))
after_tag l s (privilege o t) = in_exclusion s (with_member s.exclusion (privilege_of l o t))
after_tag l s other = s

-- ---- faults

-- at the set's end: the numbers of rules and of blocks that a policy may have ("leaves no block" is one of them), and "the output at the set's end"
unfoldable pub good_set : List ℕ → ℕ → Reading → Bool
good_set second room s =
    let n = length s.rules + (blocks second - rule_count second) in
    leb (length s.rules) most_rules && leb 1 n && leb n policy_blocks && leb (block_bytes * n) room

-- "Names, then limits, are tested where the innermost element holding all they concern ends"
unfoldable pub tag_fault : List ℕ → List ℕ → ℕ → Reading → Tag → Option Refusal
tag_fault l second room s start_set = none
tag_fault l second room s end_set = within (good_set second room s)
tag_fault l second room s (start_rule c) = none
tag_fault l second room s end_rule =
    first_of (level_fault l) (level_texts s.rule.context) or_else within (good_rule (rule_of l s.rule))
tag_fault l second room s (first_step o t) = privilege_fault l o t
tag_fault l second room s (last_step o t) = privilege_fault l o t
tag_fault l second room s (start_exclusion k d) = none
tag_fault l second room s end_exclusion = within (good_exclusion (exclusion_of s.exclusion))
tag_fault l second room s (role v) = role_fault l v
tag_fault l second room s (privilege o t) = privilege_fault l o t
tag_fault l second room s other = none

-- the first fault of a row of tags, and what they leave
unfoldable pub tags_fault : List ℕ → List ℕ → ℕ → Reading → List Tag → Option Refusal
tags_fault l second room s [] = none
tags_fault l second room s (t ∷ ts) = tag_fault l second room s t or_else tags_fault l second room (after_tag l s t) ts

unfoldable pub after_tags : List ℕ → Reading → List Tag → Reading
after_tags l s [] = s
after_tags l s (t ∷ ts) = after_tags l (after_tag l s t) ts

-- the tags of the text up to the first byte that is not of the form
unfoldable pub good_tags : List ℕ → List Tag
good_tags text = map tag_of (tags_in (take (reach set text) text))
