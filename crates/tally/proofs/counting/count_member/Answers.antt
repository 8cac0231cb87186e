use Prim.Native.Nat.{◌≤◌}
use native.Mathlib.Omega.{arith}
use mathlib.Core.Path.{refl, sym, ◌∙◌}
use borrow.Author.Tests.{eq-eqb}
use lib.Dec.{eqb}
use Rattle.tally.specs.declared.counting.Counted.{Counted}
use Rattle.tally.specs.Code.{no_count, member_at, listed, member_counts}
use Rattle.tally.proofs.Lists.{count_by-some}
use Rattle.tally.proofs.counting.count_member.Goals as goal

pub returns-then-repeats : goal.returns-then-repeats
unfolding member_counts
returns-then-repeats c =
    let r = sym c.repeats.ensures ∙ c.if-repeats.true in
    (rw r, omega arith)

pub returns-then-done-le1 : goal.returns-then-done-le1
unfolding member_counts listed
returns-then-done-le1 c =
    let r = sym c.repeats.ensures ∙ c.if-repeats.false in
    let m = c.args.members.now in
    let k = member_at m c.args.k in
    let one : 1 ≤ listed m c.args.k = count_by-some (λ (x : Counted). eqb x.privilege.0 k) no_count m c.args.k (omega arith) (eq-eqb k k refl) in
    (rw r (omega (arith, one)), omega arith)

pub returns-then-most-done : goal.returns-then-most-done
unfolding member_counts
returns-then-most-done c =
    let r = sym c.repeats.ensures ∙ c.if-repeats.false in
    let l = c.times_listed-most.ensures.0 in
    (rw (r, ← l) (omega arith), omega arith)

pub returns : goal.returns
unfolding member_counts
returns c =
    let r = sym c.repeats.ensures ∙ c.if-repeats.false in
    let l = c.times_listed-most.ensures.0 in
    (rw (r, ← l) (omega arith), omega arith)
