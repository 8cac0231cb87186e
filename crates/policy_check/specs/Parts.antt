-- Parts of a policy's check that a function of the code computes.
-- Assumes nothing.
use Rattle.std.specs.Prelude.{ℕ, ◌+◌, Bool, cond, not, ◌&&◌, ◌||◌, List, eqb, ltb}
use Rattle.words.specs.Lists.{all_below, any_below, sum_below}
use Rattle.words.specs.First.{◌or_else◌, unless, first}
use Rattle.words.specs.Bytes.{byte_at}
use Rattle.format.specs.Answer.{Refusal, refusal}
use Rattle.format.specs.Layout.{most_rules, most_levels, permission_kind, rule_kind}
use Rattle.format.specs.Block.{block, blocks, good_check, kind, number, total}
use Rattle.format.specs.Rule.{Level, Step, Rule, privilege_at, good_level, blank_level, rule_fault}
use Rattle.format.specs.Policy.{permission_at, entries, good_permission, permission_fault, policy_block_fault}
use Rattle.std.proofs.Math.Option.{Option}

-- ---- parts of a rule block's check

-- level i of a rule of a depth
abbrev pub good_level_of : ℕ → (ℕ → Level) → ℕ → Bool
good_level_of depth level i = cond (ltb i depth) (good_level (level i)) (blank_level (level i))

-- the four levels of a rule
abbrev pub good_levels : Rule → Bool
good_levels r = all_below most_levels (good_level_of r.depth r.level)

-- the step whose flag and whose privilege stand at two bytes
abbrev pub step_at : List ℕ → ℕ → ℕ → Step
step_at b flag at = record { flag = byte_at b flag; privilege = privilege_at b at }

-- ---- parts of a permission block's check

-- entry i of permission block k, and the first bad one
abbrev pub entry_fault : ℕ → List ℕ → ℕ → Option Refusal
entry_fault k b i = unless (good_permission (permission_at b i)) (refusal 6 k (i + 1))

abbrev pub entries_fault : ℕ → List ℕ → Option Refusal
entries_fault k b = first (entry_fault k b) 0 (entries b)

-- ---- parts of a policy's check

-- a permission block stands before block k
abbrev pub permission_before : List ℕ → ℕ → Bool
permission_before s k = any_below k (λ j. eqb (kind (block s j)) permission_kind)

-- the header of a block, by its number, the number of blocks and what came before it
unfoldable pub good_header : ℕ → ℕ → Bool → List ℕ → Bool
good_header k n seen b =
    eqb (number b) k
    && eqb (total b) n
    && (eqb (kind b) permission_kind || (eqb (kind b) rule_kind && ltb k most_rules && not seen))

-- the fault of a block, by the same
unfoldable pub block_fault : ℕ → ℕ → Bool → List ℕ → Option Refusal
block_fault k n seen b =
    unless (good_check b) (refusal 2 k 0)
    or_else unless (good_header k n seen b) (refusal 3 k 0)
    or_else cond (eqb (kind b) rule_kind) (rule_fault k b) (permission_fault k b)

-- the first fault of the blocks in turn
abbrev pub blocks_fault : List ℕ → Option Refusal
blocks_fault s = first (policy_block_fault s) 0 (blocks s)

-- how many of the first k blocks are rules
abbrev pub rules_before : List ℕ → ℕ → ℕ
rules_before s k = sum_below k (λ j. cond (eqb (kind (block s j)) rule_kind) 1 0)
