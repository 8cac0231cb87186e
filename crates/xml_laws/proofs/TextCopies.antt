-- Rules that are alike: they agree in all that a rule block has room for. So what is like a good rule is good, and has the same bytes.
-- Assumes nothing.
use Prim.Native.Nat.{ℕ, ◌≤◌, ◌<◌}
use native.Mathlib.Decide.{dec_lt}
use native.Mathlib.Nat.{zero-add}
use native.Mathlib.Omega.{arith}
use mathlib.Core.Path.{◌≡◌, refl, sym, ap, ap₂}
use mathlib.Core.Bool.{Bool, true, ◌&&◌, ◌||◌}
use borrow.Author.Tests.{eqb-true, leb-true, le-ltb}
use lib.Dec.{eqb, leb, ltb}
use lib.ListN.{length, get_or, get_or-eq_default}
use Rattle.words.specs.Lists.{all_below, tab}
use Rattle.word_laws.proofs.Lists.{length-tab, get_d-tab, tab-cong}
use Rattle.word_laws.proofs.Tests.{both_first, both-second, all_below-at, all_below-same}
use Rattle.format.specs.Rule.{Privilege, Exclusion, Rule, good_steps, good_rule, good_roles, good_privileges, good_exclusion}
use Rattle.format.specs.Rule.{blank_privilege as is_blank}
use Rattle.xml.specs.Blocks.{level_image, privilege_image, exclusion_image, rule_image}
use Rattle.xml.specs.Read.{blank_privilege, exclusion_of}

-- ---- exclusions

pub record AlikeExclusions (x y : Exclusion) : Type 0 where
  pub kind : x.kind ≡ y.kind
  pub m : x.m ≡ y.m
  pub n : x.n ≡ y.n
  pub pad : x.pad ≡ y.pad
  pub member : (i : ℕ) → i < 8 → x.member i ≡ y.member i

-- the exclusion that reading makes of x
unfoldable pub copied : Exclusion → Exclusion
copied x = exclusion_of (record { kind = x.kind; m = x.m; members = tab x.member 0 x.n })

-- a privilege of two zeros is the blank one
pub blank-is : (p : Privilege) → is_blank p ≡ true → blank_privilege ≡ p
blank-is p h =
    let o = eqb-true p.operation 0 (both_first (eqb p.operation 0) (eqb p.target 0) h) in
    let t = eqb-true p.target 0 (both-second (eqb p.operation 0) (eqb p.target 0) h) in
    ap₂ {C = Privilege} (λ a b. record { operation = a; target = b }) (sym o) (sym t)

-- what holds of each place of a row that is made by index, and of what stands past its end, holds of what is read at a place
pub at_place : {A : Type 0} (P : A → Type 0) (f : ℕ → A) (d : A) (n i : ℕ) → (i < n → P (f i)) → (n ≤ i → P d) → P (get_or (tab f 0 n) i d)
at_place P f d n i inside past = go (dec_lt i n)
  where
    go : Dec (i < n) → P (get_or (tab f 0 n) i d)
    go (yes h) = rw (get_d-tab f 0 n i d h, zero-add i) (inside h)
    go (no h) =
        let m : length (tab f 0 n) ≤ i = rw (length-tab f 0 n) (omega arith) in
        rw (get_or-eq_default (tab f 0 n) d m) (past (omega arith))

-- what a good exclusion is, in parts
pub record GoodExclusion (x : Exclusion) : Type 0 where
  pub pad : x.pad ≡ 0
  pub small : x.m ≤ x.n
  pub few : x.n ≤ 8
  pub members : (eqb x.kind 1 && good_roles x) || (eqb x.kind 2 && good_privileges x) ≡ true
  pub rest : (i : ℕ) → i < 8 → ltb i x.n || is_blank (x.member i) ≡ true

pub good-exclusion : (x : Exclusion) → good_exclusion x ≡ true → GoodExclusion x
unfolding good_exclusion
good-exclusion x h =
    let a = eqb x.pad 0 in
    let b = leb 2 x.m in
    let c = leb x.m x.n in
    let d = leb x.n 8 in
    let e = (eqb x.kind 1 && good_roles x) || (eqb x.kind 2 && good_privileges x) in
    let at : ℕ → Bool = λ i. ltb i x.n || is_blank (x.member i) in
    let h₁ = both_first (a && b && c && d && e) (all_below 8 at) h in
    let h₂ = both_first (a && b && c && d) e h₁ in
    let h₃ = both_first (a && b && c) d h₂ in
    record {
      pad = eqb-true x.pad 0 (both_first a b (both_first (a && b) c h₃));
      small = leb-true x.m x.n (both-second (a && b) c h₃);
      few = leb-true x.n 8 (both-second (a && b && c) d h₂);
      members = both-second (a && b && c && d) e h₁;
      rest = λ i k. all_below-at 8 i at (both-second (a && b && c && d && e) (all_below 8 at) h) k;
    }

-- the copy of a good exclusion is like it
pub copied-alike : (x : Exclusion) → GoodExclusion x → AlikeExclusions (copied x) x
unfolding copied exclusion_of
copied-alike x g =
    record {
      kind = refl;
      m = refl;
      n = length-tab x.member 0 x.n;
      pad = sym g.pad;
      member =
          λ i b.
          at_place (λ p. p ≡ x.member i) x.member blank_privilege x.n i (λ h. refl)
          (λ h. blank-is (x.member i) (rw (le-ltb i x.n h) at (g.rest i b)));
    }

-- what is like a good exclusion is good
module _ (y x : Exclusion) (a : AlikeExclusions y x) (few : x.n ≤ 8) where
  roles-alike : good_roles y ≡ good_roles x
  unfolding good_roles
  roles-alike =
      rw a.n
      (all_below-same x.n _ _
      (λ i b.
      rw (a.member i (omega arith))
      (ap (λ t. leb 1 (x.member i).operation && leb (x.member i).operation 32 && eqb (x.member i).target 0 && t)
      (all_below-same i _ _ (λ j c. rw (a.member j (omega arith)))))))

  privileges-alike : good_privileges y ≡ good_privileges x
  unfolding good_privileges
  privileges-alike = rw a.n (all_below-same x.n _ _ (λ i b. rw (a.member i (omega arith))))

  rest-alike : all_below 8 (λ i. ltb i y.n || is_blank (y.member i)) ≡ all_below 8 (λ i. ltb i x.n || is_blank (x.member i))
  rest-alike = all_below-same 8 _ _ (λ i b. rw (a.n, a.member i b))

  pub good-alike : good_exclusion y ≡ good_exclusion x
  unfolding good_exclusion
  good-alike = rw (roles-alike, privileges-alike, rest-alike, a.kind, a.m, a.pad, a.n)

-- and what is like an exclusion has its bytes
pub exclusion-image-alike : (y x : Exclusion) → AlikeExclusions y x → exclusion_image y ≡ exclusion_image x
unfolding exclusion_image
exclusion-image-alike y x a =
    let members =
    tab-cong (λ i. privilege_image (y.member i)) (λ i. privilege_image (x.member i)) 0 8 (λ i lo hi. ap privilege_image (a.member i hi)) in
    rw (members, a.kind, a.m, a.n, a.pad)

-- ---- rules

pub record AlikeRules (r q : Rule) : Type 0 where
  pub depth : r.depth ≡ q.depth
  pub exclusions : r.exclusions ≡ q.exclusions
  pub level : (i : ℕ) → i < 4 → r.level i ≡ q.level i
  pub first_step : r.first_step ≡ q.first_step
  pub last_step : r.last_step ≡ q.last_step
  pub exclusion : (e : ℕ) → e < 8 → AlikeExclusions (r.exclusion e) (q.exclusion e)

-- what is like a good rule is good, and has the same bytes
module _ (r q : Rule) (a : AlikeRules r q) where
  pub good-rule-alike : good_rule r ≡ good_rule q
  unfolding good_rule
  good-rule-alike =
      rw (a.exclusions, a.first_step, a.last_step, a.depth)
      (ap (λ t. leb q.depth 4 && leb 1 q.exclusions && leb q.exclusions 8 && t && good_steps q.first_step q.last_step)
      (all_below-same 4 _ _ (λ i b. rw (a.level i b))))

  pub rule-image-alike : rule_image r ≡ rule_image q
  unfolding rule_image
  rule-image-alike =
      let levels = tab-cong (λ i. level_image (r.level i)) (λ i. level_image (q.level i)) 0 4 (λ i lo hi. ap level_image (a.level i hi)) in
      let excls =
      tab-cong (λ e. exclusion_image (r.exclusion e)) (λ e. exclusion_image (q.exclusion e)) 0 8
      (λ e lo hi. exclusion-image-alike (r.exclusion e) (q.exclusion e) (a.exclusion e hi)) in
      rw (levels, excls, a.depth, a.exclusions, a.first_step, a.last_step)
