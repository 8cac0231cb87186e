-- Rules that a block can't tell apart: they have the same image, and keep the limits of a rule together.
-- Assumes nothing.
use Prim.Native.Nat.{ℕ, ◌<◌, ◌≤◌}
use native.Mathlib.Omega.{arith}
use mathlib.Core.Path.{◌≡◌, refl, ap}
use mathlib.Core.Bool.{Bool, true, false, cond, not, ◌&&◌, ◌||◌}
use borrow.Author.Tests.{leb-true}
use lib.Dec.{eqb, leb, ltb}
use Rattle.words.specs.Lists.{all_below}
use Rattle.word_laws.proofs.Lists.{tab-cong}
use Rattle.word_laws.proofs.Tests.{all_below-same}
use Rattle.format.specs.Layout.{most_levels, most_exclusions, most_members, highest_role}
use Rattle.format.specs.Rule.{Privilege, Exclusion, Rule, good_level, blank_level, good_steps, good_rule, good_roles, good_privileges}
use Rattle.format.specs.Rule.{blank_privilege, full_privilege, good_exclusion, blank_exclusion, good_exclusion_at}
use Rattle.xml.specs.Blocks.{level_image, privilege_image, exclusion_image, rule_image}

-- two exclusions with the same numbers and the same eight members
pub record SameExclusion (x y : Exclusion) : Type 0 where
  pub kind-same : x.kind ≡ y.kind
  pub m-same : x.m ≡ y.m
  pub n-same : x.n ≡ y.n
  pub pad-same : x.pad ≡ y.pad
  pub member-same : (i : ℕ) → i < most_members → x.member i ≡ y.member i

-- two rules with the same numbers, four levels, steps and eight exclusions
pub record SameRule (a b : Rule) : Type 0 where
  pub depth_same : a.depth ≡ b.depth
  pub exclusions-same : a.exclusions ≡ b.exclusions
  pub level-same : (i : ℕ) → i < most_levels → a.level i ≡ b.level i
  pub first-same : a.first_step ≡ b.first_step
  pub last-same : a.last_step ≡ b.last_step
  pub exclusion-same : (e : ℕ) → e < most_exclusions → SameExclusion (a.exclusion e) (b.exclusion e)

-- they keep the limits of a rule together
pub same-good_rule : (a b : Rule) → SameRule a b → good_rule a ≡ good_rule b
unfolding good_rule
same-good_rule a b h =
    rw (h.depth_same, h.exclusions-same, h.first-same, h.last-same)
    (ap
    (λ (x : Bool).
    leb b.depth most_levels && leb 1 b.exclusions && leb b.exclusions most_exclusions && x && good_steps b.first_step b.last_step)
    (all_below-same most_levels
    (λ i. cond (ltb i b.depth) (good_level (a.level i)) (blank_level (a.level i)))
    (λ i. cond (ltb i b.depth) (good_level (b.level i)) (blank_level (b.level i)))
    (λ i l. rw (h.level-same i l))))

-- the test of a role by itself
abbrev in_range : Privilege → Bool
in_range p = leb 1 p.operation && leb p.operation highest_role && eqb p.target 0

-- two exclusions that have the same members as far as there are any
module _ (kind m n pad : ℕ) (f g : ℕ → Privilege) (same : (i : ℕ) → i < most_members → f i ≡ g i) where
  x : Exclusion
  x = record { kind = kind; m = m; n = n; pad = pad; member = f }

  y : Exclusion
  y = record { kind = kind; m = m; n = n; pad = pad; member = g }

  roles : n ≤ most_members → good_roles x ≡ good_roles y
  unfolding good_roles x y
  roles few =
      all_below-same n (λ i. in_range (f i) && all_below i (λ j. not (eqb (f j).operation (f i).operation)))
      (λ i. in_range (g i) && all_below i (λ j. not (eqb (g j).operation (g i).operation)))
      (λ i l.
      rw (same i (omega arith))
      (ap (λ (b : Bool). in_range (g i) && b)
      (all_below-same i (λ j. not (eqb (f j).operation (g i).operation)) (λ j. not (eqb (g j).operation (g i).operation))
      (λ j k. rw (same j (omega arith))))))

  privileges : n ≤ most_members → good_privileges x ≡ good_privileges y
  unfolding good_privileges x y
  privileges few = all_below-same n (λ i. full_privilege (f i)) (λ i. full_privilege (g i)) (λ i l. rw (same i (omega arith)))

  good-together : good_exclusion x ≡ good_exclusion y
  unfolding good_exclusion x y
  good-together =
      rw (all_below-same most_members (λ i. ltb i n || blank_privilege (f i)) (λ i. ltb i n || blank_privilege (g i)) (λ i l. rw (same i l)))
      (go (eqb pad 0 && leb 2 m && leb m n) (all_below most_members (λ i. ltb i n || blank_privilege (g i))) (leb n most_members) refl)
    where
      go : (p q b : Bool) → leb n most_members ≡ b
          → p && b && ((eqb kind 1 && good_roles x) || (eqb kind 2 && good_privileges x)) && q
          ≡ p && b && ((eqb kind 1 && good_roles y) || (eqb kind 2 && good_privileges y)) && q
      go p q true e = rw (roles (leb-true n most_members e), privileges (leb-true n most_members e))
      go true q false e = refl
      go false q false e = refl

  blank-together : blank_exclusion x ≡ blank_exclusion y
  unfolding blank_exclusion x y
  blank-together = rw (all_below-same most_members (λ i. blank_privilege (f i)) (λ i. blank_privilege (g i)) (λ i l. rw (same i l)))

same-exclusion : (x y : Exclusion) → SameExclusion x y → (good_exclusion x ≡ good_exclusion y) × (blank_exclusion x ≡ blank_exclusion y)
unfolding x y
same-exclusion x' y' h =
    rw (h.kind-same, h.m-same, h.n-same, h.pad-same) (
      good-together y'.kind y'.m y'.n y'.pad x'.member y'.member h.member-same,
      blank-together y'.kind y'.m y'.n y'.pad x'.member y'.member h.member-same,
    )

-- and those of each exclusion
pub same-good_exclusion_at : (a b : Rule) → SameRule a b → (e : ℕ) → e < most_exclusions → good_exclusion_at a e ≡ good_exclusion_at b e
unfolding good_exclusion_at
same-good_exclusion_at a b h e l =
    let same = same-exclusion (a.exclusion e) (b.exclusion e) (h.exclusion-same e l) in
    rw (h.exclusions-same, same.0, same.1)

-- ---- and they have the same image

exclusion-alike : (x y : Exclusion) → SameExclusion x y → exclusion_image x ≡ exclusion_image y
unfolding exclusion_image
exclusion-alike x y h =
    rw (
      h.kind-same,
      h.m-same,
      h.n-same,
      h.pad-same,
      tab-cong (λ i. privilege_image (x.member i)) (λ i. privilege_image (y.member i)) 0 most_members
          (λ i lo hi. ap privilege_image (h.member-same i (omega arith))),
    )

pub image-alike : (a b : Rule) → SameRule a b → rule_image a ≡ rule_image b
unfolding rule_image
image-alike a b h =
    rw (
      h.depth_same,
      h.exclusions-same,
      h.first-same,
      h.last-same,
      tab-cong (λ i. level_image (a.level i)) (λ i. level_image (b.level i)) 0 most_levels (λ i lo hi. ap level_image (h.level-same i (omega arith))),
      tab-cong (λ e. exclusion_image (a.exclusion e)) (λ e. exclusion_image (b.exclusion e)) 0 most_exclusions
          (λ e lo hi. exclusion-alike (a.exclusion e) (b.exclusion e) (h.exclusion-same e (omega arith))),
    )
