-- The block of the exclusion that is being read: begun, and with one member more.
-- Assumes nothing.
use Prim.Native.Nat.{ℕ, ◌+◌, ◌*◌, ◌≤◌, ◌<◌, min}
use native.Mathlib.Omega.{arith}
use mathlib.Core.Path.{◌≡◌, refl}
use mathlib.Core.List.{List, [], ◌∷◌, ◌++◌, flatten}
use lib.ListN.{length, get_or, set}
use Rattle.words.specs.Lists.{tab}
use Rattle.words.specs.Bytes.{zeros}
use Rattle.format.specs.Rule.{Privilege}
use Rattle.xml.specs.Blocks.{privilege_image, exclusion_image}
use Rattle.xml.specs.Read.{blank_privilege, Members, new_members, with_member}
use Rattle.table_write.specs.Writing.{over}
use Rattle.drafts.specs.Draft.{capped_exclusion, exclusion_block}
use Rattle.drafts.proofs.Elements.{row}
use Rattle.drafts.proofs.Counted.{more-stored, more-counted}

-- what stands before the members; the block
abbrev pub front : ℕ → ℕ → ℕ → List ℕ
front k m n = zeros 56 ++ (k ∷ m ∷ n ∷ 0 ∷ [])

pub shape : (s : Members)
    → exclusion_block s ≡ front s.kind (min 255 s.m) (min 9 (length s.members)) ++ row privilege_image blank_privilege s.members 8 ++ zeros 420
unfolding exclusion_block capped_exclusion exclusion_image
shape s = refl

-- an exclusion with no member is zero but for its kind and m
pub begun : (k m : ℕ) → m < 256 → set (set (zeros 512) 56 k) 57 m ≡ exclusion_block (new_members k m)
unfolding exclusion_block capped_exclusion exclusion_image privilege_image flatten tab
begun k m h = let e : min 255 m ≡ m = omega arith in rw e

-- an m that was capped before it was written gives the same block
pub begun-capped : (k m : ℕ) → exclusion_block (new_members k (min 255 m)) ≡ exclusion_block (new_members k m)
unfolding exclusion_block capped_exclusion
begun-capped k m = let e : min 255 (min 255 m) ≡ min 255 m = omega arith in rw e

-- one member more in a block b, whose count was read and v written for it
module _ (s : Members) (p : Privilege) (b : List ℕ) (is : b ≡ exclusion_block s) (v : ℕ) (wrote : v ≡ min 9 (get_or b 58 0 + 1)) where
  -- stored where there is a place
  pub member-stored : (n : ℕ) {b' : List ℕ} → n ≡ get_or b 58 0 → n < 8 → b' ≡ over (set b 58 v) (60 + 4 * n) 4 (privilege_image p)
      → b' ≡ exclusion_block (with_member s p)
  unfolding exclusion_block capped_exclusion exclusion_image privilege_image
  member-stored =
      more-stored privilege_image blank_privilege 4 (λ x. refl) (front s.kind (min 255 s.m)) (zeros 420) 60 58 (λ n. refl) (λ n l. refl) (λ n u l. refl)
      s.members p b is v wrote

  -- counted alone where there is none
  pub member-counted : 8 ≤ get_or b 58 0 → set b 58 v ≡ exclusion_block (with_member s p)
  unfolding exclusion_block capped_exclusion exclusion_image privilege_image
  member-counted =
      more-counted privilege_image blank_privilege 4 (λ x. refl) (front s.kind (min 255 s.m)) (zeros 420) 60 58 (λ n. refl) (λ n l. refl) (λ n u l. refl)
      s.members p b is v wrote
