use mathlib.Core.Path.{◌≡◌}
use native.Mathlib.Omega.{arith}
use lib.ListN.{length, get_or, take, drop}
use Rattle.session.proofs.Turns.{running_more, running-table, running-out}
use borrow.Author.Rules.{rules}
use Prim.Native.Nat.{ℕ, ◌-◌, ◌*◌}
use mathlib.Core.Path.{ap, ◌∙◌}
use mathlib.Core.List.{List, [], ◌∷◌}
use lib.Seq.{sets}
use Rattle.answers.specs.Code.{outcome}
use Rattle.answers.specs.Numbers.{Four}
use Rattle.register.specs.Calls.{call_step}
use Rattle.session.specs.Session.{call_of, four_numbers}
use Rattle.session.proofs.run.call_each.Goals as goal

pub loop-i-preserved : goal.loop-i-preserved
unfolding four_numbers
loop-i-preserved c =
    let l = c.loop-i in
    let a = c.args in
    let asked = c.requires in
    let o = call_step a.policy.now l.table (call_of (get_or a.kinds.now l.i 0) (take (c.end_of-end.result - l.at) (drop l.at a.bytes.now))) in (
      search rules,
      search rules,
      search rules,
      search rules,
      running_more _ _ _ _ _ asked.0 l.i l.at _ _ _ _ _ o.answer l.invariant.4 (omega arith) (omega arith) (omega arith) (omega (arith, c.end_of-end.ensures))
          (ap (λ (s : List ℕ). outcome o.answer s) c.call-answer.ensures.1)
          (c.put_answer.ensures ∙ ap (λ (f : Four). sets l.answers (4 * l.i) (f.number ∷ f.first ∷ f.second ∷ f.third ∷ [])) c.call-answer.ensures.0),
    )

pub returns : goal.returns
returns c =
    let l = c.loop-i in
    let all : l.i ≡ length c.args.lengths.now = omega arith in
    record {
      table_after = running-table _ _ _ _ _ c.requires.0 l.i l.at _ _ l.invariant.4 all;
      answers_after = running-out _ _ _ _ _ c.requires.0 l.i l.at _ _ l.invariant.4 all (omega arith);
    }
