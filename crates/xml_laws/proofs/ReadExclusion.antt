-- An exclusion that has ended without a fault: it fits its bytes, and its members can be written.
-- Assumes nothing.
use Prim.Native.Nat.{ℕ, zero, suc, ◌≤◌, ◌<◌}
use native.Mathlib.Omega.{arith}
use mathlib.Core.Path.{◌≡◌}
use mathlib.Core.Bool.{Bool, true, not, ◌&&◌, ◌||◌}
use mathlib.Core.List.{List}
use mathlib.Core.Option.{none}
use lib.ListN.{length, get_or}
use lib.Dec.{eqb, leb}
use borrow.Author.Tests.{eqb-true, eqb-false, leb-true, not-true}
use Rattle.words.specs.Lists.{all_below}
use Rattle.words.specs.First.{◌or_else◌}
use Rattle.word_laws.proofs.Every.{Every, empty, more, every-get_d, every-weaken}
use Rattle.word_laws.proofs.Tests.{both_first, both-second, all_below-at}
use Rattle.word_laws.proofs.First.{or_else-none}
use Rattle.format.specs.Layout.{most_members, highest_role}
use Rattle.format.specs.Rule.{Privilege, Exclusion, good_roles, good_privileges, full_privilege, good_exclusion}
use Rattle.forms.proofs.Tests.{one_passes}
use Rattle.xml.specs.Names.{role_names, operation_names, target_names, name_of}
use Rattle.xml.specs.Read.{listed, blank_privilege, Members, exclusion_of}
use Rattle.xml.specs.Write.{member_fault}
use Rattle.xml_laws.proofs.BlockAccepted.{three}
use Rattle.xml_laws.proofs.ImageFits.{PrivilegeFits, ExclusionFits}
use Rattle.xml_laws.proofs.ReadNumbers.{KnownMember, a-role, a-privilege, member-fits}

-- a property of every element and of what stands for one past the end is one of each element by index
pub every-or : {A : Type 0} (P : A → Type 0) {xs : List A} (d : A) (i : ℕ) → P d → Every P xs → P (get_or xs i d)
every-or P d i h empty = h
every-or P d zero h (more p ps) = p
every-or P d (suc i) h (more p ps) = every-or P d i h ps

-- ---- what the limits of an exclusion say

-- four tests that passed together
pub four : (a b c d : Bool) → a && b && c && d ≡ true → (a ≡ true) × (b ≡ true) × (c ≡ true) × (d ≡ true)
four a b c d t = let f = three a b c (both_first (a && b && c) d t) in (f.0, f.1, f.2, both-second (a && b && c) d t)

module _ (x : Exclusion) where
  -- a role has no target, a privilege has one
  no_target : good_roles x ≡ true → (i : ℕ) → i < x.n → (x.member i).target ≡ 0
  unfolding good_roles
  no_target r i h =
      eqb-true (x.member i).target 0
      (four (leb 1 (x.member i).operation) (leb (x.member i).operation highest_role) (eqb (x.member i).target 0) (new i)
      (all_below-at x.n i _ r h)).2
    where
      new : ℕ → Bool
      new i = all_below i (λ j. not (eqb (x.member j).operation (x.member i).operation))

  a-target : good_privileges x ≡ true → (i : ℕ) → i < x.n → (x.member i).target ≡ 0 → ⊥
  unfolding good_privileges
  a-target p i h =
      eqb-false (x.member i).target 0
      (not-true _
      (both-second (not (eqb (x.member i).operation 0)) _ (all_below-at x.n i (λ j. full_privilege (x.member j)) p h)))

  -- two parts of the test by name
  roles-or-privileges : Bool
  roles-or-privileges = (eqb x.kind 1 && good_roles x) || (eqb x.kind 2 && good_privileges x)

  numbers : Bool
  numbers = eqb x.pad 0 && leb 2 x.m && leb x.m x.n && leb x.n most_members

  module _ (good : good_exclusion x ≡ true) where
    -- the numbers of a good exclusion
    numbers-good : (eqb x.pad 0 ≡ true) × (leb 2 x.m ≡ true) × (leb x.m x.n ≡ true) × (leb x.n most_members ≡ true)
    unfolding good_exclusion numbers roles-or-privileges
    numbers-good =
        four (eqb x.pad 0) (leb 2 x.m) (leb x.m x.n) (leb x.n most_members)
        (both_first numbers roles-or-privileges (both_first _ _ good))

    -- at most eight members
    pub members-few : x.n ≤ most_members
    members-few = leb-true x.n most_members numbers-good.3

    -- and m is no more than they
    m-few : x.m ≤ x.n
    m-few = leb-true x.m x.n numbers-good.2

    -- its members are roles, with no target, or privileges, with one
    by_kind : {A : Type 0}
        → (x.kind ≡ 1 → ((i : ℕ) → i < x.n → (x.member i).target ≡ 0) → A)
        → (x.kind ≡ 2 → ((i : ℕ) → i < x.n → (x.member i).target ≡ 0 → ⊥) → A)
        → A
    unfolding good_exclusion numbers roles-or-privileges
    by_kind f g =
        one_passes (eqb x.kind 1 && good_roles x) (eqb x.kind 2 && good_privileges x)
        (both-second numbers roles-or-privileges (both_first _ _ good))
        (λ r. f (eqb-true x.kind 1 (both_first _ (good_roles x) r)) (no_target (both-second (eqb x.kind 1) _ r)))
        (λ p. g (eqb-true x.kind 2 (both_first _ (good_privileges x) p)) (a-target (both-second (eqb x.kind 2) _ p)))

-- ---- an exclusion that has ended

-- it keeps document 01's limits, fits its bytes, and its members have names
pub record KnownExclusion (l : List ℕ) (x : Exclusion) : Type 0 where
  pub good : good_exclusion x ≡ true
  pub fits : ExclusionFits x
  pub named : (i : ℕ) → i < x.n → member_fault l x.kind (x.member i) ≡ none

module _ (l : List ℕ) (p : Privilege) where
  -- a member with no target is a role, one with a target a privilege
  role-named : KnownMember l p → p.target ≡ 0 → listed (name_of l role_names p.operation) ≡ none
  role-named (a-role k z) e = k.named
  role-named (a-privilege k) e = absurd (k.target.from-1 e)

  privilege-named : KnownMember l p → (p.target ≡ 0 → ⊥)
      → listed (name_of l operation_names p.operation) or_else listed (name_of l target_names p.target) ≡ none
  privilege-named (a-role k z) d = absurd (d z)
  privilege-named (a-privilege k) d = or_else-none k.operation.named k.target.named

-- what stands for a member past the last fits
blank-fits : PrivilegeFits blank_privilege
blank-fits = record { operation-fits = omega arith; target_fits = omega arith }

-- the exclusion of known members that keeps the limits
pub known-exclusion : (l : List ℕ) (x : Members) → Every (KnownMember l) x.members → good_exclusion (exclusion_of x) ≡ true
    → KnownExclusion l (exclusion_of x)
unfolding exclusion_of member_fault
known-exclusion l x known good =
    record {
      good = good;
      fits = record {
        kind_fits = by_kind y good (λ e r. omega arith) (λ e p. omega arith);
        m-fits = omega (arith, m-few y good, members-few y good);
        n-fits = omega (arith, members-few y good);
        pad-fits = omega arith;
        members-fit = λ i h. every-or PrivilegeFits blank_privilege i blank-fits fit;
      };
      named = λ i h. by_kind y good
          (λ e r. rw e (role-named l (y.member i) (at i h) (r i h)))
          (λ e p. rw e (privilege-named l (y.member i) (at i h) (p i h)));
    }
  where
    y : Exclusion
    y = exclusion_of x

    at : (i : ℕ) → i < length x.members → KnownMember l (get_or x.members i blank_privilege)
    at i h = every-get_d blank_privilege i known h

    fit : Every PrivilegeFits x.members
    fit = every-weaken (λ p k. member-fits l k) known
