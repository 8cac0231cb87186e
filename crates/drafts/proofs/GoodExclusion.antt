-- The block of the exclusion that is being read is good where the exclusion is, and then its bytes are the exclusion's image.
-- Assumes nothing.
use Prim.Native.Nat.{ℕ, ◌+◌, ◌*◌, ◌≤◌, ◌<◌, min}
use native.Mathlib.Omega.{arith}
use mathlib.Core.Path.{◌≡◌, refl, ap, ◌∙◌}
use mathlib.Core.Bool.{Bool, true, false, not, ◌&&◌, ◌||◌}
use mathlib.Core.List.{flatten}
use borrow.Author.Tests.{leb-true}
use lib.ListN.{length, get_or}
use lib.Dec.{eqb, leb, ltb}
use Rattle.words.specs.Lists.{tab, all_below}
use Rattle.words.specs.Bytes.{zeros, part}
use Rattle.word_laws.proofs.Tests.{both_first, both-second, all_below-same}
use Rattle.format.specs.Rule.{Privilege, Exclusion, exclusion_at, good_roles, good_privileges, good_exclusion, full_privilege, blank_privilege as is_blank}
use Rattle.exclusion_check.specs.Parts.{good_size, good_members, good_role}
use Rattle.exclusion_check.proofs.Sized.{few-members}
use Rattle.xml.specs.Blocks.{privilege_image, exclusion_image}
use Rattle.xml.specs.Read.{blank_privilege, Members, exclusion_of}
use Rattle.drafts.specs.Draft.{capped_exclusion, exclusion_block, MembersFit}
use Rattle.drafts.proofs.Elements.{row_read}
use Rattle.drafts.proofs.Fields.{privilege-read}
use Rattle.drafts.proofs.ExclusionBlock.{front, shape}

-- two tests are one if each passes only where they are
same-when : (b c : Bool) → (b ≡ true → b ≡ c) → (c ≡ true → b ≡ c) → b ≡ c
same-when true c f g = f refl
same-when false true f g = g refl
same-when false false f g = refl

-- what a good exclusion says of its numbers
good-limits : (x : Exclusion) → good_exclusion x ≡ true → (x.m ≤ x.n) × (x.n ≤ 8)
unfolding good_exclusion
good-limits x h =
    let two = eqb x.pad 0 && leb 2 x.m in
    let sized =
    both_first (good_size x) (good_members x)
    (both_first (good_size x && good_members x) (all_below 8 (λ i. ltb i x.n || is_blank (x.member i))) h) in (
      leb-true x.m x.n (both-second two (leb x.m x.n) (both_first (two && leb x.m x.n) (leb x.n 8) sized)),
      few-members x sized,
    )

-- an exclusion of at most eight members is good by its first eight
by-eight : (k m n z : ℕ) (f g : ℕ → Privilege) → n ≤ 8 → ((i : ℕ) → i < 8 → f i ≡ g i)
    → good_exclusion (record { kind = k; m = m; n = n; pad = z; member = f }) ≡ good_exclusion (record { kind = k; m = m; n = n; pad = z; member = g })
unfolding good_exclusion good_roles good_privileges
by-eight k m n z f g few same = rw (roles, privileges, blanks)
  where
    x : (ℕ → Privilege) → Exclusion
    x h = record { kind = k; m = m; n = n; pad = z; member = h }

    roles : good_roles (x f) ≡ good_roles (x g)
    roles =
        all_below-same n (good_role (x f)) (good_role (x g))
        (λ i below.
        let other : (ℕ → Privilege) → ℕ → Bool = λ h j. not (eqb (h j).operation (g i).operation) in
        rw (same i (omega arith), all_below-same i (other f) (other g) (λ j l. rw (same j (omega arith)))))

    privileges : good_privileges (x f) ≡ good_privileges (x g)
    privileges = all_below-same n (λ i. full_privilege (f i)) (λ i. full_privilege (g i)) (λ i h. rw (same i (omega arith)))

    blanks : all_below 8 (λ i. ltb i n || is_blank (f i)) ≡ all_below 8 (λ i. ltb i n || is_blank (g i))
    blanks = all_below-same 8 (λ i. ltb i n || is_blank (f i)) (λ i. ltb i n || is_blank (g i)) (λ i h. rw (same i h))

-- ---- of the block

module _ (s : Members) where
  -- numbers within the limits are not capped
  uncapped : s.m ≤ 8 → length s.members ≤ 8 → capped_exclusion s ≡ exclusion_of s
  unfolding capped_exclusion exclusion_of
  uncapped small few =
      let m : min 255 s.m ≡ s.m = omega arith in
      let n : min 9 (length s.members) ≡ length s.members = omega arith in
      rw (m, n)

  -- a member is read as it is
  member-read : MembersFit s → (i : ℕ) → i < 8 → (exclusion_at (exclusion_block s) 0).member i ≡ get_or s.members i blank_privilege
  unfolding privilege_image
  member-read fits i h =
      privilege-read (exclusion_block s) (60 + 4 * i) (get_or s.members i blank_privilege)
      (rw shape
      (row_read privilege_image blank_privilege 4 (λ x. refl) (front s.kind (min 255 s.m) (min 9 (length s.members))) (zeros 420) 60 8 refl
      s.members i h))
      (fits.1 i)

  -- an exclusion within the limits is good as its block is
  within : MembersFit s → s.m ≤ 8 → length s.members ≤ 8 → good_exclusion (exclusion_at (exclusion_block s) 0) ≡ good_exclusion (exclusion_of s)
  unfolding exclusion_block capped_exclusion exclusion_image
  within fits small few =
      by-eight s.kind (min 255 s.m) (min 9 (length s.members)) 0 (exclusion_at (exclusion_block s) 0).member
      (λ i. get_or s.members i blank_privilege) (omega arith) (member-read fits)
      ∙ ap good_exclusion (uncapped small few)

  -- the limits of the block are those of the exclusion
  block-limits : good_exclusion (exclusion_at (exclusion_block s) 0) ≡ true → (s.m ≤ 8) × (length s.members ≤ 8)
  unfolding exclusion_block capped_exclusion exclusion_image
  block-limits h =
      let l = good-limits (exclusion_at (exclusion_block s) 0) h in
      (omega (arith, l.0, l.1), omega (arith, l.1))

  -- and those of the exclusion are its own
  own-limits : good_exclusion (exclusion_of s) ≡ true → (s.m ≤ 8) × (length s.members ≤ 8)
  unfolding exclusion_of
  own-limits h = let l = good-limits (exclusion_of s) h in (omega (arith, l.0, l.1), l.1)

  -- the block is good where the exclusion is
  pub read-good : MembersFit s → good_exclusion (exclusion_at (exclusion_block s) 0) ≡ good_exclusion (exclusion_of s)
  read-good fits =
      same-when (good_exclusion (exclusion_at (exclusion_block s) 0)) (good_exclusion (exclusion_of s))
      (λ h. let l = block-limits h in within fits l.0 l.1) (λ h. let l = own-limits h in within fits l.0 l.1)

  -- the exclusion's bytes in its block
  image : part (exclusion_block s) 56 36 ≡ exclusion_image (capped_exclusion s)
  unfolding exclusion_block exclusion_image privilege_image flatten tab
  image = refl

  -- the bytes of a good one are its image
  pub good-image : good_exclusion (exclusion_of s) ≡ true → part (exclusion_block s) 56 36 ≡ exclusion_image (exclusion_of s)
  good-image h = let l = own-limits h in image ∙ ap exclusion_image (uncapped l.0 l.1)
