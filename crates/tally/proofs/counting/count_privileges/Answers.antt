use Rattle.std.proofs.Common.{rules, tests, arith, ◌∙◌, ◌≤◌, ◌<◌, refl, ℕ, Bool, true, false, cond, length, min, ◌^◌}
use Rattle.std.specs.List.{sum_by, range_with_len}
use Rattle.std.proofs.lemmas.Iterator.{YieldsList-from_range, YieldsList-from_map}
use Rattle.std.proofs.lemmas.Iterator.Consumers.{YieldsList-at, sum_by_from_yields_List, fits_by_from_yields_list}
use Rattle.std.proofs.lemmas.List.Sums.{count_by-le-length}
use native.Mathlib.Nat.{sub-zero}
use mathlib.Core.List.{List}
use Rattle.tally.proofs.Lists.{sum-range, sum-few}
use Rattle.tally.specs.Code.{listed, repeated, counted_at, member_counts, members_count}
use Rattle.tally.specs.declared.counting.Counted.{Counted}
use Rattle.tally.proofs.counting.count_privileges.Goals.{After-map}
use Rattle.tally.proofs.counting.count_privileges.Goals as goal

few : (members : List Counted) (k : ℕ) → member_counts members k ≤ length members
unfolding member_counts listed
few members k = go (repeated members k) (listed members k) (counted_at members k).times (count_by-le-length _ members)
  where
    go : (b : Bool) (n m : ℕ) → n ≤ length members → cond b 0 (min n m) ≤ length members
    go true n m h = omega arith
    go false n m h = omega arith

pub sum-requires-clause-fits : goal.sum-requires-clause-fits
sum-requires-clause-fits c =
    let m = c.args.members.now in
    let n = length m in
    let small : sum_by (member_counts m) (range_with_len 0 n) < 2 ^ 32 = omega (arith, sum-range (member_counts m) n, sum-few (member_counts m) 8 n (λ i. omega (arith, few m i))) in
    fits_by_from_yields_list (member_counts m) (range_with_len 0 n) c.map.result _
    (YieldsList-from_map _ (member_counts m) (YieldsList-at c.map.ensures.source (YieldsList-from_range 0 n n refl (sub-zero n))) c.map.ensures.closure (λ x r q k. search (rules, tests)))
    small

pub returns : goal.returns
unfolding members_count
returns c =
    let m = c.args.members.now in
    let n = length m in
    sum_by_from_yields_List (member_counts m) (range_with_len 0 n) c.map.result _ c.sum.ensures.ran
    (YieldsList-from_map _ (member_counts m) (YieldsList-at c.map.ensures.source (YieldsList-from_range 0 n n refl (sub-zero n))) c.map.ensures.closure (λ x r q k. search (rules, tests)))
    ∙ sum-range (member_counts m) n
