use Prim.Native.Nat.{◌<◌}
use native.Mathlib.Omega.{arith}
use mathlib.Core.Path.{◌≡◌, sym, ap, ◌∙◌}
use mathlib.Core.Option.{Option, some}
use Rattle.format.specs.Answer.{Refusal}
use mathlib.Core.Bool.{true}
use Rattle.words.specs.Bytes.{bit}
use Rattle.format.specs.Layout.{most_rules, most_exclusions}
use Rattle.format.specs.Rule.{exclusion_at, good_exclusion}
use Rattle.format.specs.Policy.{rule_count}
use Rattle.judge.specs.Tally.{reached}
use Rattle.history.specs.Code.{past_by}
use Rattle.history.proofs.Standing.{past-small}
use Rattle.format_laws.proofs.AcceptedPolicy.{rule-inside}
use Rattle.verdict.proofs.AcceptedEntries.{exclusion-ready}
use Rattle.verdict.proofs.Nested.{row-hit, row_more, row_done}
use Rattle.verdict.proofs.Searching.{fails_at, counts, few-rules, rules-none, rule-silent, rule-judges, exclusion-fails, exclusion-passes}
use Rattle.verdict.proofs.search.search.Invariants.{fails}
use Rattle.verdict.proofs.search.search.Goals.{After-reaches, Else-none_from, Else-not-has, In-loop-e}
use Rattle.verdict.proofs.search.search.Goals as goal

-- a rule is left, so the one at hand is one of all
low : (c : Else-none_from) → c.rules.i < most_rules
low c =
    let r = c.rules in
    few-rules c.args.judging.rules.0 r.i (omega arith) r.invariant.0 (sym c.none_from.ensures ∙ c.if-none_from.false)

pub has-requires : goal.has-requires
has-requires c = low (goal.at.has-requires c).Else-none_from

pub rules-preserved-then-not-has : goal.rules-preserved-then-not-has
rules-preserved-then-not-has c =
    let a = c.args in
    let r = c.rules in
    let l = low (goal.at.rules-preserved-then-not-has c).Else-none_from in (
      omega (arith, l),
      rule-silent a.policy.now a.judging.rules.0 a.judging.each a.q.now a.table.now a.found.now r.i r.invariant.1 l
          (sym c.has.ensures ∙ c.if-not-has.true),
    )

pub rules-smaller-then-not-has : goal.rules-smaller-then-not-has
rules-smaller-then-not-has c = omega (arith, low (goal.at.rules-smaller-then-not-has c).Else-none_from)

-- a rule that judges is one of the policy's
module _ (c : Else-not-has) where
  judges : bit c.rules.i c.args.judging.rules.0 ≡ true
  judges = sym c.has.ensures ∙ c.if-not-has.false

  below : c.rules.i < rule_count c.args.policy.now
  below = c.requires.judging_rules.below c.rules.i judges

pub block-b-requires : goal.block-b-requires
block-b-requires c = rule-inside c.args.policy.now c.requires.judging_rules.accepted c.rules.i (below (goal.at.block-b-requires c).Else-not-has)

pub past_of-count-requires-clause-i_bound : goal.past_of-count-requires-clause-i_bound
past_of-count-requires-clause-i_bound c = (low (goal.at.past_of-count-requires-clause-i_bound c).Else-none_from, omega (arith, c.requires.room_len.0, c.rules.auto.room))

pub loop-e-init : goal.loop-e-init
loop-e-init c =
    let a = c.args in
    let r = c.rules in
    rule-judges a.policy.now a.judging.rules.0 a.judging.each a.q.now a.table.now a.found.now r.i r.invariant.1 (low (goal.at.loop-e-init c).Else-none_from)
    _ c.from-e-end.result (judges (goal.at.loop-e-init c).Else-not-has) c.block-b.ensures c.from-e-end.ensures

-- the exclusion at hand is one of the rule's
ready : (c : In-loop-e) → (c.loop-e.e < most_exclusions) × (good_exclusion (exclusion_at c.block-b.result.now c.loop-e.e) ≡ true)
ready c =
    let e = exclusion-ready c.args.policy.now c.requires.judging_rules.accepted _ c.rules.i c.loop-e.e c.from-e-end.result (below (goal.at.In-loop-e c).Else-not-has) c.block-b.ensures c.from-e-end.ensures c.loop-e-test.true in
    (e.1, e.2)

pub reaches-requires-clause-e_bound : goal.reaches-requires-clause-e_bound
reaches-requires-clause-e_bound c = ready c

pub refused_by-requires : goal.refused_by-requires
refused_by-requires c = (low (goal.at.refused_by-requires c).Else-none_from, (ready (goal.at.refused_by-requires c).In-loop-e).0)

-- what the tally has said of it
reached-is : (c : After-reaches) → let a = c.args in
    c.reaches.result ≡ reached (exclusion_at c.block-b.result.now c.loop-e.e) (counts a.judging.each a.q.now a.table.now a.found.now c.rules.i)
reached-is c =
    let a = c.args in
    c.reaches.ensures (past_by a.judging.each a.q.now c.rules.i a.table.now a.found.now) c.past_of-count.ensures.1
    (past-small a.judging.each a.q.now c.rules.i a.table.now a.found.now (λ k. (c.type_inv.table k).fits))

pub loop-e-preserved : goal.loop-e-preserved
loop-e-preserved c =
    let a = c.args in
    let i = c.rules.i in
    let l = c.loop-e in
    let s = a.policy.now in
    let b = c.block-b.result.now in
    let qs = counts a.judging.each a.q.now a.table.now a.found.now i in
    row_more (fails s a.judging a.q.now a.table.now a.found.now) (fails_at b i qs) i most_rules l.e c.from-e-end.result l.invariant c.loop-e-test.true
    (exclusion-passes s b i l.e qs c.reaches.result (reached-is (goal.at.loop-e-preserved c).After-reaches) c.if-reaches.false)

pub rules-preserved : goal.rules-preserved
rules-preserved c =
    let a = c.args in
    let i = c.rules.i in
    let l = c.loop-e in (
      omega (arith, low (goal.at.rules-preserved c).Else-none_from),
      row_done (fails a.policy.now a.judging a.q.now a.table.now a.found.now) (fails_at c.block-b.result.now i (counts a.judging.each a.q.now a.table.now a.found.now i)) i most_rules l.e c.from-e-end.result l.invariant c.loop-e-test.false,
    )

pub rules-smaller : goal.rules-smaller
rules-smaller c = omega (arith, low (goal.at.rules-smaller c).Else-none_from)

pub returns-then-none_from : goal.returns-then-none_from
returns-then-none_from c =
    let a = c.args in
    let r = c.rules in
    rules-none a.policy.now a.judging.rules.0 a.judging.each a.q.now a.table.now a.found.now r.i r.invariant.1 (sym c.none_from.ensures ∙ c.if-none_from.true)

pub returns-then-reaches : goal.returns-then-reaches
returns-then-reaches c =
    let a = c.args in
    let i = c.rules.i in
    let l = c.loop-e in
    let s = a.policy.now in
    let b = c.block-b.result.now in
    let qs = counts a.judging.each a.q.now a.table.now a.found.now i in
    ap {B = Option Refusal} some c.refused_by.ensures
    ∙ row-hit (fails s a.judging a.q.now a.table.now a.found.now) (fails_at b i qs) i most_rules l.e c.from-e-end.result l.invariant c.loop-e-test.true
    (exclusion-fails s b i l.e qs c.reaches.result (reached-is (goal.at.returns-then-reaches c).After-reaches) c.if-reaches.true)
