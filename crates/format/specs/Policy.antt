-- "Policy image": which bytes are a policy, the number that any others get, and what a policy says.
-- Assumes nothing.
use Rattle.std.specs.Prelude.{ℕ, ◌+◌, ◌-◌, ◌*◌, Bool, cond, not, ◌&&◌, ◌||◌, eqb, leb, ltb}
use mathlib.Core.List.{List, [], flatten}
use Rattle.std.proofs.Math.Option.{Option}
use Rattle.words.specs.Lists.{any_below, sum_below, tab}
use Rattle.words.specs.First.{◌or_else◌, unless, first}
use Rattle.words.specs.Bytes.{u16_at, zero_from}
use Rattle.words.specs.Sums.{Sums, sums, words}
use Rattle.format.specs.Answer.{Refusal, refusal}
use Rattle.format.specs.Layout.{rule_kind, permission_kind, policy_blocks, most_rules, highest_role, count_at, spare_at, spare_bytes}
use Rattle.format.specs.Layout.{most_entries, entries_bytes, entry_bytes, entries_at, entry_operation_at, entry_target_at, entry_pad_at}
use Rattle.format.specs.Block.{blocks, block, kind, number, total, good_length, good_check}
use Rattle.format.specs.Rule.{Rule, rule_at, rule_fault}

-- ---- the permission block

-- "entries of four 2-byte fields: role 1 to 32, operation, target (each 1 to 65535), zero"
pub record Permission : Type 0 where
  pub role : ℕ
  pub operation : ℕ
  pub target : ℕ
  pub pad : ℕ

-- entry i of a permission block, from 0: "from byte 16"
abbrev pub permission_at : List ℕ → ℕ → Permission
permission_at b i =
    record {
      role = u16_at b (entries_at + entry_bytes * i);
      operation = u16_at b (entry_operation_at + entry_bytes * i);
      target = u16_at b (entry_target_at + entry_bytes * i);
      pad = u16_at b (entry_pad_at + entry_bytes * i);
    }

unfoldable pub good_permission : Permission → Bool
good_permission e =
    leb 1 e.role
    && leb e.role highest_role
    && not (eqb e.operation 0)
    && not (eqb e.target 0)
    && eqb e.pad 0

-- "8-9 number of entries, 0 to 61"
abbrev pub entries : List ℕ → ℕ
entries b = u16_at b count_at

-- what stands outside the counted entries: the number of them, and bytes that are not named
unfoldable pub good_permission_bytes : List ℕ → Bool
good_permission_bytes b =
    leb (entries b) most_entries
    && zero_from b spare_at spare_bytes
    && zero_from b (entries_at + entry_bytes * entries b) (entries_bytes - entry_bytes * entries b)

-- "6: a permission block's other bytes"; "in 6 a fault outside the counted entries, bytes after them too, gives 0 and comes first"
unfoldable pub permission_fault : ℕ → List ℕ → Option Refusal
permission_fault k b =
    unless (good_permission_bytes b) (refusal 6 k 0)
    or_else first (λ i. unless (good_permission (permission_at b i)) (refusal 6 k (i + 1))) 0 (entries b)

-- ---- the blocks in turn

-- "3: kind, number, total, rule after permission, or rule 33". Rule r is block r - 1, so rule 33 would be block 32.
unfoldable pub good_policy_header : List ℕ → ℕ → Bool
good_policy_header s k =
    eqb (number (block s k)) k
    && eqb (total (block s k)) (blocks s)
    && (eqb (kind (block s k)) permission_kind
    || (eqb (kind (block s k)) rule_kind && ltb k most_rules && not (any_below k (λ j. eqb (kind (block s j)) permission_kind))))

-- block k: "numbers within a block upwards", with the "block from 0"
unfoldable pub policy_block_fault : List ℕ → ℕ → Option Refusal
policy_block_fault s k =
    unless (good_check (block s k)) (refusal 2 k 0)
    or_else unless (good_policy_header s k) (refusal 3 k 0)
    or_else cond (eqb (kind (block s k)) rule_kind) (rule_fault k (block s k)) (permission_fault k (block s k))

-- "1: length not 512 times 1 to 64", then "each block in turn"
unfoldable pub policy_fault : List ℕ → Option Refusal
policy_fault s =
    unless (good_length policy_blocks s) (refusal 1 0 0)
    or_else first (policy_block_fault s) 0 (blocks s)

-- ---- what an accepted policy says

-- its rules, by their index from 0 ("Rule r (from 1) is block r - 1"), and its permissions in order
pub record Policy : Type 0 where
  pub rules : ℕ
  pub rule : ℕ → Rule
  pub permissions : List Permission

unfoldable pub rule_count : List ℕ → ℕ
rule_count s = sum_below (blocks s) (λ k. cond (eqb (kind (block s k)) rule_kind) 1 0)

-- the entries of block k, none if it is a rule block
unfoldable pub permissions_at : List ℕ → ℕ → List Permission
permissions_at s k =
    cond (eqb (kind (block s k)) permission_kind) (tab (permission_at (block s k)) 0 (entries (block s k))) []

unfoldable pub policy_of : List ℕ → Policy
policy_of s =
    record {
      rules = rule_count s;
      rule = λ i. rule_at (block s i);
      permissions = flatten (tab (permissions_at s) 0 (blocks s));
    }

-- "The stamp of a policy is the same sum over all words of its image, checks included."
unfoldable pub stamp : List ℕ → Sums
stamp s = sums (words s)
