use Prim.Native.Nat.{ℕ}
use mathlib.Core.Path.{◌≡◌, sym, ap, ◌∙◌}
use mathlib.Core.Option.{Option}
use Rattle.format.specs.Answer.{Refusal}
use Rattle.std.proofs.lemmas.Result.{err_from_is_err_and}
use Rattle.words.specs.Bytes.{bit}
use Rattle.format.specs.Policy.{policy_of}
use Rattle.format.specs.Records.{records_here}
use Rattle.format.specs.Code.{fault_of}
use Rattle.judge.specs.Verdict.{verdict}
use Rattle.judge.specs.NewTable.{open_in, past_in}
use Rattle.matching.specs.Sets.{judging_in}
use Rattle.matching.proofs.Together.{near-fewer}
use Rattle.history.proofs.Standing.{judging-same, found_inside}
use Rattle.verdict.proofs.Judged.{judging-rules, ending-fits, verdict-found}
use Rattle.verdict.proofs.verdicts.judged_in.Goals.{After-judging-rules, After-searched}
use Rattle.verdict.proofs.verdicts.judged_in.Given.{Over}
use Rattle.verdict.proofs.verdicts.judged_in.Goals as goal

-- the rules that judge
module _ (g : Over) (c : After-judging-rules g) where
  are :
      let a = c.args in
      let p = policy_of a.policy.now.image.now in
      c.judging-rules.result.0 ≡ judging_in p a.q.now (open_in p (records_here a.table.now a.n) a.q.now)
  are =
      let a = c.args in
      let p = a.policy.now in
      let m = c.requires.cases.0 in
      c.judging-rules.ensures (policy_of p.image.now) a.q.now m
      ∙ ap (λ (x : ℕ). judging_in (policy_of p.image.now) a.q.now (λ i. bit i x)) c.find-seen.ensures.0
      ∙ judging-same p.image.now p.accepted a.asked.each c.requires.cases.1 a.q.now a.asked.matched.fitting.0 m.fitting-are (records_here a.table.now a.n)

pub searched-requires-clause-judging_rules : goal.searched-requires-clause-judging_rules
searched-requires-clause-judging_rules g c =
    let a = c.args in
    let p = a.policy.now in
    judging-rules p.image.now a.q.now a.asked.matched.fitting.0 c.requires.cases.0.fitting-are (records_here a.table.now a.n) p.accepted c.judging-rules.result.0
    (are g (goal.at.searched-requires-clause-judging_rules g c).After-judging-rules)

pub searched-requires-clause-by_index : goal.searched-requires-clause-by_index
searched-requires-clause-by_index g c =
    let a = c.args in
    rw c.find-seen.ensures.3 (found_inside a.asked.each a.asked.matched.fitting.0 a.q.now a.table.now a.n c.requires.has_room)

-- the verdict, as the search tells it
module _ (g : Over) (c : After-searched g) where
  told : let a = c.args in let p = policy_of a.policy.now.image.now in let rs = records_here a.table.now a.n in
      fault_of c.searched.result ≡ verdict p a.q.now (open_in p rs a.q.now) (past_in p rs a.q.now)
  told =
      let a = c.args in
      let p = a.policy.now in
      c.searched.ensures
      ∙ verdict-found p.image.now a.q.now a.asked.matched.fitting.0 c.requires.cases.0.fitting-are a.table.now a.n p.accepted c.judging-rules.result.0
      (are g (goal.at.After-searched g c).After-judging-rules) a.asked.each c.requires.cases.1 c.requires.granted _ c.find-seen.ensures.3

pub returns-in_err-searched : goal.returns-in_err-searched
returns-in_err-searched g c =
    let p = err_from_is_err_and c.from_residual.result c.from_residual.ensures.1 in
    let faults = ap {B = Option Refusal} fault_of (sym c.in_err-searched.was) ∙ told g (goal.at.returns-in_err-searched g c).After-searched in
    rw (p.1, p.2) (record { faults = faults; effect_is = tt; near-is = tt })

pub returns : goal.returns
returns g c =
    let a = c.args in
    let p = a.policy.now in
    let find = c.find-seen in
    let m = c.requires.cases.0 in
    let are' = are g (goal.at.returns g c).After-judging-rules in
    let effect = c.effect.ensures (policy_of p.image.now) a.q.now (open_in (policy_of p.image.now) (records_here a.table.now a.n) a.q.now) m are' in
    record {
      faults = ap {B = Option Refusal} fault_of (sym c.in_ok-searched.was) ∙ told g (goal.at.returns g c).After-searched;
      effect_is = effect;
      near-is =
          near-fewer a.asked.each a.asked.matched.fitting.0 c.effect.result.ends.0 a.q.now a.table.now a.n find.result.near
          (ending-fits p.image.now a.q.now a.asked.matched.fitting.0 m.fitting-are (records_here a.table.now a.n) p.accepted c.judging-rules.result.0 are' c.effect.result effect)
          find.ensures.1;
    }
