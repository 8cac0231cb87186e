-- What is being read, as bytes: an exclusion and a rule, each in a block of its own, so that the checks of a policy serve for reading too.
-- Assumes nothing.
use Rattle.std.specs.Prelude.{ℕ, ◌-◌, ◌<◌, min, length, get_or}
use mathlib.Core.List.{List, [], ◌∷◌, ◌++◌, flatten}
use Rattle.words.specs.Lists.{tab}
use Rattle.words.specs.Bytes.{zeros}
use Rattle.format.specs.Layout.{block_bytes, depth_at, rule_spare_bytes, most_levels, kind_at, exclusion_bytes, most_exclusions, rule_tail_at}
use Rattle.format.specs.Rule.{Level, Privilege, Step, Exclusion, Rule}
use Rattle.xml.specs.Blocks.{level_image, privilege_image, exclusion_image, rule_image}
use Rattle.xml.specs.Read.{blank_privilege, level_from, Members, new_members, exclusion_of, Draft}

-- the highest m, and the highest number of members and of exclusions, that are told apart: each fits a byte and is above its limit
abbrev pub highest_m : ℕ
highest_m = 255

abbrev pub highest_count : ℕ
highest_count = 9

-- ---- an exclusion

-- the exclusion that is being read, m and n capped
unfoldable pub capped_exclusion : Members → Exclusion
capped_exclusion x =
    record {
      kind = x.kind;
      m = min highest_m x.m;
      n = min highest_count (length x.members);
      pad = 0;
      member = λ i. get_or x.members i blank_privilege;
    }

-- it stands where a block's first exclusion stands, and all else is zero
unfoldable pub exclusion_block : Members → List ℕ
exclusion_block x = zeros kind_at ++ exclusion_image (capped_exclusion x) ++ zeros (block_bytes - kind_at - exclusion_bytes)

-- ---- a rule

-- the rule that is being read, with these levels: as its block will be, but with no kind and no depth, and the exclusions' number capped
unfoldable pub draft_block : List Level → Draft → List ℕ
draft_block ls d =
    zeros depth_at
    ++ (0 ∷ min highest_count (length d.exclusions) ∷ d.first.flag ∷ d.last.flag ∷ [])
    ++ zeros rule_spare_bytes
    ++ flatten (tab (λ i. level_image (get_or ls i (level_from 0 0 0))) 0 most_levels)
    ++ privilege_image d.first.privilege
    ++ privilege_image d.last.privilege
    ++ flatten (tab (λ e. exclusion_image (get_or d.exclusions e (exclusion_of (new_members 0 0)))) 0 most_exclusions)
    ++ zeros (block_bytes - rule_tail_at)

-- the rule that has ended, in a block with no check yet
unfoldable pub rule_block : Rule → List ℕ
rule_block r = rule_image r ++ zeros 8

-- ---- numbers that fit their bytes

abbrev pub PrivilegeFits : Privilege → Type 0
PrivilegeFits p = (p.operation < 65536) × (p.target < 65536)

abbrev pub StepFits : Step → Type 0
StepFits s = (s.flag < 256) × PrivilegeFits s.privilege

abbrev pub LevelFits : Level → Type 0
LevelFits v = (v.type < 65536) × (v.mark < 256) × (v.pad < 256) × (v.value < 65536) × (v.tail < 65536)

abbrev pub MembersFit : Members → Type 0
MembersFit x = (x.kind < 256) × ((i : ℕ) → PrivilegeFits (get_or x.members i blank_privilege))
