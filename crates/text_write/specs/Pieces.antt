-- The pieces of the text as the code lays them down: fixed pieces and names. And the most bytes that a piece has.
-- Assumes nothing.
use Rattle.std.specs.Prelude.{ℕ, ◌+◌, ◌*◌, ◌<◌, ◌≤◌, Bool, cond, ◌||◌, eqb}
use mathlib.Core.List.{List, [], ◌∷◌, ◌++◌, flatten}
use Rattle.words.specs.Lists.{tab, any_below}
use Rattle.words.specs.Bytes.{byte_at}
use Rattle.format.specs.Layout.{most_rules, most_levels, most_exclusions, most_members, depth_at, exclusions_at}
use Rattle.format.specs.Rule.{Privilege, Step, is_set, Exclusion, exclusion_at, Rule}
use Rattle.xml.specs.Names.{most_name_bytes, role_names, operation_names, target_names}
use Rattle.xml.specs.Write.{name_text, member_text, exclusion_text}
use Rattle.text_write.specs.Words.{most_word_bytes}
use Rattle.text_write.specs.Words.{tag_end, first_start, last_start, target_uri, element_end, roles_start, privileges_start, role_start, comma}
use Rattle.text_write.specs.Lost.{member_lost, step_lost}

-- ---- the most bytes

abbrev pub most_role_bytes : ℕ
most_role_bytes = most_word_bytes + most_name_bytes + most_word_bytes

abbrev pub most_pair_bytes : ℕ
most_pair_bytes = most_word_bytes + most_name_bytes + most_word_bytes + most_name_bytes + most_word_bytes

abbrev pub most_members_bytes : ℕ
most_members_bytes = most_pair_bytes * most_members

abbrev pub most_opening_bytes : ℕ
most_opening_bytes = most_word_bytes + 1 + most_word_bytes

abbrev pub most_exclusion_bytes : ℕ
most_exclusion_bytes = most_opening_bytes + most_members_bytes + most_word_bytes

abbrev pub most_exclusions_bytes : ℕ
most_exclusions_bytes = most_exclusion_bytes * most_exclusions

abbrev pub most_level_bytes : ℕ
most_level_bytes = most_word_bytes + most_name_bytes + most_word_bytes + most_name_bytes

abbrev pub most_context_bytes : ℕ
most_context_bytes = most_level_bytes * most_levels

abbrev pub most_steps_bytes : ℕ
most_steps_bytes = most_pair_bytes + most_pair_bytes

abbrev pub most_rule_bytes : ℕ
most_rule_bytes = most_word_bytes + most_context_bytes + most_word_bytes + most_steps_bytes + most_exclusions_bytes + most_word_bytes

abbrev pub most_rules_bytes : ℕ
most_rules_bytes = most_rule_bytes * most_rules

abbrev pub most_text_bytes : ℕ
most_text_bytes = most_word_bytes + most_rules_bytes + most_word_bytes

-- ---- an exclusion

abbrev pub role_text : List ℕ → ℕ → List ℕ
role_text l n = role_start ++ name_text l role_names n ++ element_end

-- two fixed pieces tell what a privilege is there
unfoldable pub pair_text : List ℕ → List ℕ → List ℕ → Privilege → List ℕ
pair_text l w v p = w ++ name_text l operation_names p.operation ++ v ++ name_text l target_names p.target ++ element_end

abbrev pub opening_text : ℕ → ℕ → List ℕ
opening_text k m = cond (eqb k 1) roles_start privileges_start ++ ((48 + m) ∷ []) ++ tag_end

unfoldable pub members_text : List ℕ → ℕ → (ℕ → Privilege) → ℕ → List ℕ
members_text l k f n = flatten (tab (λ i. member_text l k (f i)) 0 n)

unfoldable pub members_lost : List ℕ → ℕ → (ℕ → Privilege) → ℕ → Bool
members_lost l k f n = any_below n (λ i. member_lost l k (f i))

-- ---- a rule

-- a step, if it is set, with the piece that it starts with
unfoldable pub set_step_text : List ℕ → List ℕ → Step → List ℕ
set_step_text l w s = cond (is_set s) (pair_text l w target_uri s.privilege) []

abbrev pub steps_text : List ℕ → Rule → List ℕ
steps_text l r = set_step_text l first_start r.first_step ++ set_step_text l last_start r.last_step

abbrev pub steps_lost : List ℕ → Rule → Bool
steps_lost l r = step_lost l r.first_step || step_lost l r.last_step

-- a comma before every level but the first
unfoldable pub comma_text : ℕ → List ℕ
comma_text i = cond (eqb i 0) [] comma

unfoldable pub exclusions_text : List ℕ → Rule → List ℕ
exclusions_text l r = flatten (tab (λ e. exclusion_text l (r.exclusion e)) 0 r.exclusions)

-- ---- a rule's block

-- an exclusion has at most eight members, and m is one digit
pub record Countable (x : Exclusion) : Type 0 where
  pub digit : x.m < 10
  pub members : x.n ≤ most_members

-- a block that can be written: as many levels, exclusions and members as a block has places for
pub record Writable (b : List ℕ) : Type 0 where
  pub depth : byte_at b depth_at ≤ most_levels
  pub exclusions : byte_at b exclusions_at ≤ most_exclusions
  pub each : (e : ℕ) → e < byte_at b exclusions_at → Countable (exclusion_at b e)
