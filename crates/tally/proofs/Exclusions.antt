-- What an exclusion counts of the requests taken in, from the tally that stands for them.
-- Assumes nothing.
use Prim.Native.Nat.{ℕ, ◌+◌, ◌-◌, ◌*◌, ◌≤◌, ◌<◌}
use native.Mathlib.Omega.{arith}
use mathlib.Core.Path.{◌≡◌, refl, sym, ap, ◌∙◌}
use mathlib.Core.Bool.{Bool, true, false, cond, ◌&&◌, ◌||◌}
use mathlib.Core.List.{List}
use borrow.Author.Tests.{leb-true, eqb-true, eq-eqb, ne_eqb}
use lib.ListN.{length, take}
use lib.Seq.{get_or-take, length-take-le}
use lib.Dec.{eqb, leb, ltb}
use Rattle.words.specs.Lists.{keep, any_of, all_below}
use Rattle.words.specs.Bytes.{u16_at, bit}
use Rattle.word_laws.proofs.Bits.{any_below-same}
use Rattle.word_laws.proofs.Tests.{both_first, both-second, all_below-at}
use Rattle.format.specs.Request.{Request, roles, has_role}
use Rattle.format.specs.Rule.{Exclusion, exclusion_at, same_privilege, blank_privilege, good_exclusion, good_roles, good_privileges}
use Rattle.judge.specs.Tally.{does, counts_for, role_tally, times_listed, times_done, repeats, privilege_tally, tally}
use Rattle.tally.specs.declared.tallies.Tally.{Tally}
use Rattle.tally.specs.declared.counting.Counted.{Counted}
use Rattle.tally.specs.Code.{TallyOf, counted_at, member_at, no_count, roles_among, listed, repeated, member_counts, members_count}
use Rattle.words.specs.Lists.{sum_below}
use Rattle.word_laws.proofs.Below.{sum_below-same}
use Rattle.tally.proofs.Lists.{list_any-below, count_by-below}
use Rattle.tally.proofs.Privileges.{packed-same}

-- ---- what the check of an exclusion says of it

module _ (x : Exclusion) (good : good_exclusion x ≡ true) where
  kinds : Bool
  kinds = (eqb x.kind 1 && good_roles x) || (eqb x.kind 2 && good_privileges x)

  front : eqb x.pad 0 && leb 2 x.m && leb x.m x.n && leb x.n 8 && kinds ≡ true
  unfolding good_exclusion kinds
  front = both_first _ (all_below 8 (λ i. ltb i x.n || blank_privilege (x.member i))) good

  pub n-most : x.n ≤ 8
  n-most =
      leb-true x.n 8
      (both-second (eqb x.pad 0 && leb 2 x.m && leb x.m x.n) _
      (both_first (eqb x.pad 0 && leb 2 x.m && leb x.m x.n && leb x.n 8) kinds front))

  kind-one-roles : eqb x.kind 1 ≡ true → good_roles x ≡ true
  unfolding kinds
  kind-one-roles e =
      go x.kind (eqb-true x.kind 1 e) (good_roles x) (good_privileges x)
      (both-second (eqb x.pad 0 && leb 2 x.m && leb x.m x.n && leb x.n 8) kinds front)
    where
      go : (k : ℕ) → k ≡ 1 → (r p : Bool) → (eqb k 1 && r) || (eqb k 2 && p) ≡ true → r ≡ true
      go k h true p t = refl
      go k h false p t = rw h at t

  -- members are roles 1 to 32
  pub role-range : eqb x.kind 1 ≡ true → (i : ℕ) → i < x.n → (1 ≤ (x.member i).operation) × ((x.member i).operation ≤ 32)
  unfolding good_roles
  role-range e i h =
      let a = leb 1 (x.member i).operation in
      let b = leb (x.member i).operation 32 in
      let t = all_below-at x.n i _ (kind-one-roles e) h in
      let f = both_first (a && b) _ (both_first (a && b && eqb (x.member i).target 0) _ t) in
      (leb-true 1 (x.member i).operation (both_first a b f), leb-true (x.member i).operation 32 (both-second a b f))

-- ---- what counts for a member, by the exclusion's kind

module _ (x : Exclusion) (i : ℕ) (qs : List Request) where
  role-counts : eqb x.kind 1 ≡ true → any_of (λ q. bit ((x.member i).operation - 1) (roles q)) qs ≡ any_of (counts_for x i) qs
  unfolding counts_for has_role
  role-counts e =
      sym (ap (λ (a : Bool). any_of (λ q. cond a (has_role (x.member i).operation q) (does (x.member i) q)) qs) e)

  done-counts : eqb x.kind 1 ≡ false → length (keep (does (x.member i)) qs) ≡ times_done x i qs
  unfolding times_done counts_for
  done-counts e =
      sym (ap (λ (a : Bool). length (keep (λ q. cond a (has_role (x.member i).operation q) (does (x.member i) q)) qs)) e)

-- ---- kind 1

module _ (b : List ℕ) (e : ℕ) (qs : List Request) (t : Tally) (good : good_exclusion (exclusion_at b e) ≡ true) (of : TallyOf (exclusion_at b e) qs t) where
  pub roles-tally : t.kind ≡ 1 → roles_among b e (exclusion_at b e).n t.roles.0 ≡ tally (exclusion_at b e) qs
  unfolding roles_among tally role_tally
  roles-tally is =
      let one : eqb (exclusion_at b e).kind 1 ≡ true = eq-eqb (exclusion_at b e).kind 1 (sym of.kind ∙ is) in
      rw one
      (sum_below-same (exclusion_at b e).n _ _
      (λ i h.
      let r = role-range (exclusion_at b e) good one i h in
      let k = u16_at b (60 + 36 * e + 4 * i) - 1 in
      ap (λ (a : Bool). cond {A = ℕ} a 1 0) (of.active is k (omega (arith, r.0, r.1)) ∙ role-counts (exclusion_at b e) i qs one)))

-- ---- kind 2

-- ms are the members of x that count
module _ (x : Exclusion) (qs : List Request) (t : Tally) (good : good_exclusion x ≡ true) (of : TallyOf x qs t) where
  -- those that count
  among : List Counted
  among = take x.n t.members

  among-long : length among ≡ x.n
  unfolding among
  among-long = omega (arith, length-take-le {A = Counted} x.n t.members, of.eight, n-most x good)

  among-at : (k : ℕ) → k < x.n → counted_at among k ≡ counted_at t.members k
  unfolding among
  among-at k h = get_or-take x.n t.members k _ h

  member-same : (i j : ℕ) → i < x.n → j < x.n → eqb (member_at among i) (member_at among j) ≡ same_privilege (x.member i) (x.member j)
  member-same i j hi hj =
      let few = n-most x good in
      let ei = ap (λ (c : Counted). c.privilege.0) (among-at i hi) ∙ of.member i (omega arith) in
      let ej = ap (λ (c : Counted). c.privilege.0) (among-at j hj) ∙ of.member j (omega arith) in
      rw (ei, ej) (packed-same (x.member i) (x.member j) (of.small i (omega arith)) (of.small j (omega arith)))

  repeats-same : (i : ℕ) → i < x.n → repeated among i ≡ repeats x i
  unfolding repeated repeats
  repeats-same i h =
      list_any-below (λ (c : Counted). eqb c.privilege.0 (member_at among i)) no_count among i (omega (arith, among-long))
      ∙ any_below-same i _ _ (λ j k. member-same j i (omega arith) h)

  listed_same : (i : ℕ) → i < x.n → listed among i ≡ times_listed x i
  unfolding listed times_listed
  listed_same i h =
      count_by-below (λ (c : Counted). eqb c.privilege.0 (member_at among i)) no_count among
      ∙ ap (λ (n : ℕ). sum_below n (λ j. cond (eqb (member_at among j) (member_at among i)) 1 0)) among-long
      ∙ sum_below-same x.n _ _ (λ j k. ap (λ (a : Bool). cond a 1 0) (member-same j i k h))

  done-same : (t.kind ≡ 1 → ⊥) → (i : ℕ) → i < x.n → (counted_at among i).times ≡ times_done x i qs
  done-same is i h =
      let few = n-most x good in
      ap (λ (c : Counted). c.times) (among-at i h)
      ∙ of.done is i (omega arith)
      ∙ done-counts x i qs (ne_eqb x.kind 1 (λ e. is (of.kind ∙ e)))

  pub privileges-tally : (t.kind ≡ 1 → ⊥) → members_count (take x.n t.members) ≡ tally x qs
  unfolding among members_count member_counts tally privilege_tally
  privileges-tally is =
      let two : eqb x.kind 1 ≡ false = ne_eqb x.kind 1 (λ e. is (of.kind ∙ e)) in
      rw (two, among-long)
      (sum_below-same x.n _ _
      (λ i h. rw (repeats-same i h, listed_same i h, done-same is i h)))
