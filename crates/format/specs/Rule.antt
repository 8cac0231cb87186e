-- The rule block: what its bytes say, and the limits that document 01 sets to it.
-- Assumes nothing.
use Rattle.std.specs.Prelude.{ℕ, ◌+◌, ◌*◌, Bool, cond, not, ◌&&◌, ◌||◌, List, eqb, leb, ltb}
use Rattle.std.proofs.Math.Option.{Option}
use Rattle.words.specs.Lists.{all_below}
use Rattle.words.specs.First.{◌or_else◌, unless, first}
use Rattle.words.specs.Bytes.{byte_at, u16_at, zero_from}
use Rattle.format.specs.Answer.{Refusal, refusal}
use Rattle.format.specs.Layout.{highest_role, depth_at, exclusions_at, first_flag_at, last_flag_at, first_step_at, last_step_at, rule_spare_at, rule_spare_bytes, rule_tail_at, rule_tail_bytes}
use Rattle.format.specs.Layout.{most_levels, level_bytes, type_at, mark_at, level_pad_at, value_at, level_tail_at}
use Rattle.format.specs.Layout.{most_exclusions, exclusion_bytes, kind_at, m_at, n_at, exclusion_pad_at, members_at, most_members, member_bytes}

-- ---- what the bytes say

-- "four levels of 8: type (2), mark (1), zero (1), value (2), zero (2)"
pub record Level : Type 0 where
  pub type : ℕ
  pub mark : ℕ
  pub pad : ℕ
  pub value : ℕ
  pub tail : ℕ

-- W4: "Level mark 4 takes a low value where the value stands and a high value in the last two bytes of the level."
abbrev pub is_range : Level → Bool
is_range l = eqb l.mark 4

abbrev pub low : Level → ℕ
low l = l.value

abbrev pub high : Level → ℕ
high l = l.tail

-- "operation (2), target (2)". A member of kind 1 has the same form: "roles 1 to 32 (2), zero (2)".
pub record Privilege : Type 0 where
  pub operation : ℕ
  pub target : ℕ

-- a first or a last step: 1 if it is set, and the privilege
pub record Step : Type 0 where
  pub flag : ℕ
  pub privilege : Privilege

-- "kind (1), m (1), n (1), zero (1), eight members of 4", a member by its index from 0
pub record Exclusion : Type 0 where
  pub kind : ℕ
  pub m : ℕ
  pub n : ℕ
  pub pad : ℕ
  pub member : ℕ → Privilege

-- a rule; its levels and exclusions by their index from 0
pub record Rule : Type 0 where
  pub depth : ℕ
  pub exclusions : ℕ
  pub level : ℕ → Level
  pub first_step : Step
  pub last_step : Step
  pub exclusion : ℕ → Exclusion

abbrev pub level_at : List ℕ → ℕ → Level
level_at b i =
    record {
      type = u16_at b (type_at + level_bytes * i);
      mark = byte_at b (mark_at + level_bytes * i);
      pad = byte_at b (level_pad_at + level_bytes * i);
      value = u16_at b (value_at + level_bytes * i);
      tail = u16_at b (level_tail_at + level_bytes * i);
    }

abbrev pub privilege_at : List ℕ → ℕ → Privilege
privilege_at b at = record { operation = u16_at b at; target = u16_at b (at + 2) }

abbrev pub exclusion_at : List ℕ → ℕ → Exclusion
exclusion_at b e =
    record {
      kind = byte_at b (kind_at + exclusion_bytes * e);
      m = byte_at b (m_at + exclusion_bytes * e);
      n = byte_at b (n_at + exclusion_bytes * e);
      pad = byte_at b (exclusion_pad_at + exclusion_bytes * e);
      member = λ i. privilege_at b (members_at + exclusion_bytes * e + member_bytes * i);
    }

-- the rule of a rule block
unfoldable pub rule_at : List ℕ → Rule
rule_at b =
    record {
      depth = byte_at b depth_at;
      exclusions = byte_at b exclusions_at;
      level = level_at b;
      first_step = record { flag = byte_at b first_flag_at; privilege = privilege_at b first_step_at };
      last_step = record { flag = byte_at b last_flag_at; privilege = privilege_at b last_step_at };
      exclusion = exclusion_at b;
    }

-- "10, 11: 1 if a first, a last step is set"
abbrev pub is_set : Step → Bool
is_set s = eqb s.flag 1

abbrev pub same_privilege : Privilege → Privilege → Bool
same_privilege p r = eqb p.operation r.operation && eqb p.target r.target

-- ---- the limits

-- both numbers are zero; both are from 1
abbrev pub blank_privilege : Privilege → Bool
blank_privilege p = eqb p.operation 0 && eqb p.target 0

abbrev pub full_privilege : Privilege → Bool
full_privilege p = not (eqb p.operation 0) && not (eqb p.target 0)

-- "Marks: 1 fixed (value 1 to 65535), 2 every, 3 each (value 0)."
unfoldable pub good_mark : ℕ → ℕ → Bool
good_mark mark value = (eqb mark 1 && not (eqb value 0)) || ((eqb mark 2 || eqb mark 3) && eqb value 0)

-- W4: "A low of 0 or a low above the high gives 4."
abbrev pub good_range : ℕ → ℕ → ℕ → Bool
good_range mark low high = eqb mark 4 && not (eqb low 0) && leb low high

-- "value (2), zero (2)" of a level with its mark: with mark 4 they are the low and the high value
abbrev pub good_values : ℕ → ℕ → ℕ → Bool
good_values mark value tail = (good_mark mark value && eqb tail 0) || good_range mark value tail

-- "Types of used levels are 1 to 65535"
unfoldable pub good_level : Level → Bool
good_level l = not (eqb l.type 0) && good_values l.mark l.value l.tail && eqb l.pad 0

-- "levels past the depth are all zero"
unfoldable pub blank_level : Level → Bool
blank_level l = eqb l.type 0 && eqb l.mark 0 && eqb l.pad 0 && eqb l.value 0 && eqb l.tail 0

-- "Set steps have operation and target 1 to 65535"; "zero if not set"
unfoldable pub good_step : Step → Bool
good_step s = (eqb s.flag 1 && full_privilege s.privilege) || (eqb s.flag 0 && blank_privilege s.privilege)

-- "and are not equal": asked of two steps that are both set
unfoldable pub good_steps : Step → Step → Bool
good_steps f l = good_step f && good_step l && not (is_set f && is_set l && same_privilege f.privilege l.privilege)

-- "depth 0 to 4", "exclusions, 1 to 8", the levels and the steps
unfoldable pub good_rule : Rule → Bool
good_rule r =
    leb r.depth most_levels
    && leb 1 r.exclusions
    && leb r.exclusions most_exclusions
    && all_below most_levels (λ i. cond (ltb i r.depth) (good_level (r.level i)) (blank_level (r.level i)))
    && good_steps r.first_step r.last_step

-- "Exclusion kind 1: members are roles 1 to 32 (2), zero (2), no role twice."
unfoldable pub good_roles : Exclusion → Bool
good_roles x =
    all_below x.n
    (λ i.
    leb 1 (x.member i).operation
    && leb (x.member i).operation highest_role
    && eqb (x.member i).target 0
    && all_below i (λ j. not (eqb (x.member j).operation (x.member i).operation)))

-- "Kind 2: operation, target, each 1 to 65535; repeats allowed and meaningful."
unfoldable pub good_privileges : Exclusion → Bool
good_privileges x = all_below x.n (λ i. full_privilege (x.member i))

-- "2 <= m <= n <= 8. Members past n .. are zero."
unfoldable pub good_exclusion : Exclusion → Bool
good_exclusion x =
    eqb x.pad 0
    && leb 2 x.m
    && leb x.m x.n
    && leb x.n most_members
    && ((eqb x.kind 1 && good_roles x) || (eqb x.kind 2 && good_privileges x))
    && all_below most_members (λ i. ltb i x.n || blank_privilege (x.member i))

-- "exclusions past their number, are zero"
unfoldable pub blank_exclusion : Exclusion → Bool
blank_exclusion x =
    eqb x.kind 0
    && eqb x.m 0
    && eqb x.n 0
    && eqb x.pad 0
    && all_below most_members (λ i. blank_privilege (x.member i))

-- ---- the check: "4: rule's other bytes. 5: an exclusion."

-- what of a rule block is neither its first eight bytes, nor an exclusion, nor the check. "Bytes not named are zero": bytes 12 to 15, between the
-- flags and the levels, and 344 to 503, between the exclusions and the check.
unfoldable pub good_rule_bytes : List ℕ → Bool
good_rule_bytes b = good_rule (rule_at b) && zero_from b rule_spare_at rule_spare_bytes && zero_from b rule_tail_at rule_tail_bytes

-- exclusion e, from 0: a good one among the rule's number, and zero past it ("one past the number that is not zero is bad")
unfoldable pub good_exclusion_at : Rule → ℕ → Bool
good_exclusion_at r e = cond (ltb e r.exclusions) (good_exclusion (r.exclusion e)) (blank_exclusion (r.exclusion e))

-- the fault of rule block k, with "block from 0, then exclusion .. from 1 (0 where neither)"
unfoldable pub rule_fault : ℕ → List ℕ → Option Refusal
rule_fault k b =
    unless (good_rule_bytes b) (refusal 4 k 0)
    or_else first (λ e. unless (good_exclusion_at (rule_at b) e) (refusal 5 k (e + 1))) 0 most_exclusions
