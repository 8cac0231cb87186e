use Rattle.tally.proofs.Exclusions.{n-most, role-range, roles-tally, privileges-tally}
use Rattle.tally.specs.Code.{roles_among, members_count}
use Rattle.judge.specs.Tally.{reached}
use Rattle.format.specs.Rule.{exclusion_at}
use borrow.Author.Tests.{eq-eqb}
use lib.Dec.{leb}
use lib.Seq.{length-take-le}
use lib.ListN.{take}
use native.Mathlib.Omega.{arith}
use mathlib.Core.Path.{◌≡◌, sym, ap, ap₂, ◌∙◌}
use mathlib.Core.Bool.{Bool}
use Prim.Native.Nat.{ℕ}
use Rattle.tally.proofs.tallies.Tally.reached.Goals as goal

pub count_roles-requires : goal.count_roles-requires
count_roles-requires c =
    let x = exclusion_at c.args.b.now c.args.e in
    let n = c.from-n.ensures in
    let few = n-most x c.requires.1 in
    record {
      b_len = (omega arith, omega arith);
      by_index = λ k h. role-range x c.requires.1 (eq-eqb x.kind 1 c.if-b-e-eq-OF_ROLES.true) k (omega arith);
    }

pub returns-then-b-e-eq-OF_ROLES : goal.returns-then-b-e-eq-OF_ROLES
unfolding reached
returns-then-b-e-eq-OF_ROLES c qs of few =
    let a = c.args in
    let n = ap (λ (k : ℕ). roles_among a.b.now a.e k a.self.roles.0) c.from-n.ensures in
    let is = of.kind ∙ c.if-b-e-eq-OF_ROLES.true in
    ap₂ {C = Bool} leb c.from-m.ensures (c.count_roles.ensures ∙ n ∙ roles-tally a.b.now a.e qs a.self c.requires.1 of is)

pub slice_bounds-members-end : goal.slice_bounds-members-end
slice_bounds-members-end c = let x = exclusion_at c.args.b.now c.args.e in
    let n = c.from-n.ensures in
    let few = n-most x c.requires.1 in
    omega (arith, c.well_formed.0.1.1.0)

pub slice_bounds-count_privileges-end : goal.slice_bounds-count_privileges-end
slice_bounds-count_privileges-end c =
    let x = exclusion_at c.args.b.now c.args.e in
    let n = c.from-n.ensures in
    let few = n-most x c.requires.1 in
    omega (arith, c.well_formed.0.1.1.0, length-take-le c.from-n.result c.args.self.members)

pub returns : goal.returns
unfolding reached
returns c qs of few =
    let a = c.args in
    let x = exclusion_at a.b.now a.e in
    let is : a.self.kind ≡ 1 → ⊥ = λ k. c.if-b-e-eq-OF_ROLES.false (sym of.kind ∙ k) in
    ap₂ {C = Bool} leb c.from-m.ensures (c.count_privileges.ensures ∙ ap (λ (k : ℕ). members_count (take k a.self.members)) c.from-n.ensures ∙ privileges-tally x qs a.self c.requires.1 of is)
