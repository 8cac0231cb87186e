-- The block of the rule that is being read: begun, with a step, one level or one exclusion more, and ended.
-- Assumes nothing.
use Prim.Native.Nat.{ℕ, ◌+◌, ◌*◌, ◌≤◌, ◌<◌, min}
use native.Mathlib.Omega.{arith}
use mathlib.Core.Path.{◌≡◌, refl, ap}
use mathlib.Core.List.{List, [], ◌∷◌, ◌++◌, flatten}
use lib.ListN.{length, get_or, set}
use lib.Seq.{sets}
use Rattle.words.specs.Lists.{tab}
use Rattle.words.specs.Bytes.{bytes4, zeros}
use Rattle.format.specs.Rule.{Level, Privilege, Exclusion}
use Rattle.xml.specs.Blocks.{level_image, privilege_image, exclusion_image, rule_image}
use Rattle.xml.specs.Read.{level_from, new_members, exclusion_of, Draft, new_draft, with_first, with_last, with_exclusion, rule_from}
use Rattle.table_write.specs.Writing.{over}
use Rattle.drafts.specs.Draft.{draft_block, rule_block}
use Rattle.drafts.proofs.Elements.{row, row-full, row_more}
use Rattle.drafts.proofs.Counted.{more-stored, more-counted}

-- the rows of levels and of exclusions
abbrev levels : List Level → List ℕ
levels ls = row level_image (level_from 0 0 0) ls 4

abbrev exclusions : List Exclusion → List ℕ
exclusions xs = row exclusion_image (exclusion_of (new_members 0 0)) xs 8

-- what stands before the levels, with these first 4 bytes, this depth and this count; and behind them
abbrev pub head : List ℕ → ℕ → Draft → ℕ → List ℕ
head k depth d n = k ++ zeros 4 ++ (depth ∷ n ∷ d.first.flag ∷ d.last.flag ∷ []) ++ zeros 4

abbrev pub behind : Draft → List ℕ
behind d = privilege_image d.first.privilege ++ privilege_image d.last.privilege ++ exclusions d.exclusions ++ zeros 168

-- what stands before the exclusions
abbrev front : List ℕ → ℕ → List Level → Draft → ℕ → List ℕ
front k depth ls d n = head k depth d n ++ levels ls ++ privilege_image d.first.privilege ++ privilege_image d.last.privilege

-- a rule with nothing yet is zero
pub begun : (c : List ℕ) → zeros 512 ≡ draft_block [] (new_draft c)
unfolding draft_block level_image privilege_image exclusion_image exclusion_of flatten tab
begun c = refl

-- a step that is set
module _ (ls : List Level) (d : Draft) (p : Privilege) where
  pub first-set : over (set (draft_block ls d) 10 1) 48 4 (privilege_image p) ≡ draft_block ls (with_first d p)
  unfolding draft_block level_image privilege_image flatten tab
  first-set = refl

  pub last_set : over (set (draft_block ls d) 11 1) 52 4 (privilege_image p) ≡ draft_block ls (with_last d p)
  unfolding draft_block level_image privilege_image flatten tab
  last_set = refl

-- one level more
module _ (ls : List Level) (d : Draft) (v : Level) where
  -- stored where there is a place
  pub level-stored : length ls < 4 → over (draft_block ls d) (16 + 8 * length ls) 8 (level_image v) ≡ draft_block (ls ++ (v ∷ [])) d
  unfolding draft_block level_image privilege_image flatten tab
  level-stored h =
      row_more level_image (level_from 0 0 0) 8 (λ x. refl) (head (zeros 4) 0 d (min 9 (length d.exclusions))) (behind d) 16 4 refl ls (length ls) h v refl

  -- where there is none the block stays
  pub level-left : 4 ≤ length ls → draft_block ls d ≡ draft_block (ls ++ (v ∷ [])) d
  unfolding draft_block
  level-left h =
      ap (λ (l : List ℕ).
      head (zeros 4) 0 d (min 9 (length d.exclusions)) ++ l ++ privilege_image d.first.privilege ++ privilege_image d.last.privilege
      ++ exclusions d.exclusions ++ zeros 168)
      (row-full level_image (level_from 0 0 0) ls v 4 h)

-- one exclusion more in a block b, whose count was read and v written for it
module _ (ls : List Level) (d : Draft) (x : Exclusion) (b : List ℕ) (is : b ≡ draft_block ls d) (v : ℕ) (wrote : v ≡ min 9 (get_or b 9 0 + 1)) where
  -- stored where there is a place
  pub exclusion-stored : (n : ℕ) {b' : List ℕ} → n ≡ get_or b 9 0 → n < 8 → b' ≡ over (set b 9 v) (56 + 36 * n) 36 (exclusion_image x)
      → b' ≡ draft_block ls (with_exclusion d x)
  unfolding draft_block exclusion_image privilege_image level_image flatten tab
  exclusion-stored =
      more-stored exclusion_image (exclusion_of (new_members 0 0)) 36 (λ y. refl) (front (zeros 4) 0 ls d) (zeros 168) 56 9 (λ n. refl) (λ n l. refl)
      (λ n u l. refl) d.exclusions x b is v wrote

  -- counted alone where there is none
  pub exclusion-counted : 8 ≤ get_or b 9 0 → set b 9 v ≡ draft_block ls (with_exclusion d x)
  unfolding draft_block exclusion_image privilege_image level_image flatten tab
  exclusion-counted =
      more-counted exclusion_image (exclusion_of (new_members 0 0)) 36 (λ y. refl) (front (zeros 4) 0 ls d) (zeros 168) 56 9 (λ n. refl) (λ n l. refl)
      (λ n u l. refl) d.exclusions x b is v wrote

-- a rule that has ended, with at most eight exclusions
pub ended : (ls : List Level) (d : Draft) → length d.exclusions ≤ 8
    → set (sets (draft_block ls d) 0 (bytes4 1)) 8 (length ls) ≡ rule_block (rule_from ls d)
unfolding draft_block rule_block rule_image rule_from level_image privilege_image exclusion_image flatten tab
ended ls d h = ap (λ n. front (bytes4 1) (length ls) ls d n ++ exclusions d.exclusions ++ zeros 168) (omega arith)
