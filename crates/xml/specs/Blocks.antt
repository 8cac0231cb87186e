-- A rule as the bytes of its block, and an image of rule blocks "followed by the permission blocks alone of a second lent image, numbered anew".
-- Assumes nothing.
use Rattle.std.specs.Prelude.{ℕ, ◌-◌, length, take, get_or}
use mathlib.Core.List.{List, [], ◌∷◌, ◌++◌, map, flatten}
use Rattle.words.specs.Lists.{tab}
use Rattle.words.specs.Bytes.{bytes2, bytes4, zeros, part}
use Rattle.format.specs.Layout.{check_at, rule_kind, most_levels, most_exclusions, most_members, rule_spare_bytes, rule_tail_bytes}
use Rattle.format.specs.Block.{blocks, block, sealed}
use Rattle.format.specs.Rule.{Level, Privilege, Exclusion, Rule}
use Rattle.format.specs.Policy.{rule_count}

-- "type (2), mark (1), zero (1), value (2), zero (2)"
unfoldable pub level_image : Level → List ℕ
level_image l = bytes2 l.type ++ l.mark ∷ l.pad ∷ bytes2 l.value ++ bytes2 l.tail

-- "operation (2), target (2)"
unfoldable pub privilege_image : Privilege → List ℕ
privilege_image p = bytes2 p.operation ++ bytes2 p.target

-- "kind (1), m (1), n (1), zero (1), eight members of 4"
unfoldable pub exclusion_image : Exclusion → List ℕ
exclusion_image x = x.kind ∷ x.m ∷ x.n ∷ x.pad ∷ flatten (tab (λ i. privilege_image (x.member i)) 0 most_members)

-- the 504 bytes of a rule block before its check, with no number and no total yet
unfoldable pub rule_image : Rule → List ℕ
rule_image r =
    bytes4 rule_kind
    ++ zeros 4
    ++ (r.depth ∷ r.exclusions ∷ r.first_step.flag ∷ r.last_step.flag ∷ [])
    ++ zeros rule_spare_bytes
    ++ flatten (tab (λ i. level_image (r.level i)) 0 most_levels)
    ++ privilege_image r.first_step.privilege
    ++ privilege_image r.last_step.privilege
    ++ flatten (tab (λ e. exclusion_image (r.exclusion e)) 0 most_exclusions)
    ++ zeros rule_tail_bytes

-- a block as block k of n, sealed: "4-5 block number from 0, 6-7 blocks in all"
unfoldable pub numbered_anew : ℕ → ℕ → List ℕ → List ℕ
numbered_anew n k b = sealed (take 4 b ++ bytes2 k ++ bytes2 n ++ part b 8 (check_at - 8))

-- "the permission blocks alone" of an image
unfoldable pub permission_blocks : List ℕ → List (List ℕ)
permission_blocks s = tab (block s) (rule_count s) (blocks s - rule_count s)

-- an image of these blocks
unfoldable pub image_of : List (List ℕ) → List ℕ
image_of bs = flatten (tab (λ k. numbered_anew (length bs) k (get_or bs k [])) 0 (length bs))

unfoldable pub rules_image : List Rule → List ℕ → List ℕ
rules_image rs second = image_of (map rule_image rs ++ permission_blocks second)
