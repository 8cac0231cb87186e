use mathlib.Core.Path.{◌≡◌, sym, ◌∙◌}
use mathlib.Core.Bool.{true}
use borrow.Author.Tests.{eqb-true}
use Rattle.format.specs.Policy.{policy_of}
use Rattle.format.specs.Records.{records_here}
use Rattle.judge.specs.Verdict.{permitted as permitted_by}
use Rattle.matching.proofs.Together.{near_none}
use Rattle.verdict.proofs.Judged.{verdict-refused, verdict-silent, effect-silent}
use Rattle.verdict.proofs.verdicts.verdict_of.Goals.{Else-not-permitted}
use Rattle.verdict.proofs.verdicts.verdict_of.Goals as goal

pub returns-then-not-permitted : goal.returns-then-not-permitted
returns-then-not-permitted c =
    let a = c.args in
    let p = policy_of a.policy.now.image.now in
    record {
      faults = verdict-refused p a.q.now (records_here a.table.now a.n) (sym c.permitted.ensures ∙ c.if-not-permitted.true);
      effect_is = tt;
      near-is = tt;
    }

module _ (c : Else-not-permitted) where
  passes : permitted_by (policy_of c.args.policy.now.image.now) c.args.q.now ≡ true
  passes = sym c.permitted.ensures ∙ c.if-not-permitted.false

pub returns-then-is_empty : goal.returns-then-is_empty
returns-then-is_empty c =
    let a = c.args in
    let s = a.policy.now.image.now in
    let matched = c.match_rules-matched in
    let rs = records_here a.table.now a.n in
    let nowhere = eqb-true matched.result.fitting.0 0 (sym c.is_empty.ensures ∙ c.if-is_empty.true) in
    record {
      faults = verdict-silent s a.q.now matched.result.fitting.0 matched.ensures.fitting-are rs nowhere (passes (goal.at.returns-then-is_empty c).Else-not-permitted);
      effect_is = effect-silent s a.q.now matched.result.fitting.0 matched.ensures.fitting-are rs nowhere _ c.no_effect.ensures.0 c.no_effect.ensures.1;
      near-is = near_none a.each c.no_effect.result.ends.0 a.q.now a.table.now a.n _ c.no_effect.ensures.0;
    }
