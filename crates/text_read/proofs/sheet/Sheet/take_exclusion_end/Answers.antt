use native.Mathlib.Omega.{arith}
use mathlib.Core.List.{[]}
use Rattle.std.proofs.lemmas.Result.{err_from_is_err_and}
use Rattle.xml.specs.Read.{exclusion_of, new_members, with_exclusion, tag_fault, after_tag}
use Rattle.text_read.proofs.StandsNow.{none-fit, exclusion-now, rule-now}
use Rattle.text_read.proofs.sheet.Sheet.take_exclusion_end.Goals as goal

pub returns-in_err-end_exclusion : goal.returns-in_err-end_exclusion
unfolding tag_fault
returns-in_err-end_exclusion c =
    let p = err_from_is_err_and c.from_residual.result c.from_residual.ensures.1 in
    λ t l second room s h. rw (p.1, p.2) (record { fault = c.in_err-end_exclusion.ensures.fault s.exclusion h.exclusion h.members; now = tt })

pub returns : goal.returns
unfolding tag_fault after_tag
returns c =
    let told = c.in_ok-end_exclusion.ensures in
    λ t l second room s h.
    record {
      fault = told.fault s.exclusion h.exclusion h.members;
      now =
          exclusion-now
          (rule-now h (with_exclusion s.rule (exclusion_of s.exclusion)) c.args.self.now.context
          (told.good s.exclusion [] s.rule h.exclusion h.members h.draft) h.first h.last h.context h.in_text)
          (new_members 0 0) c.no_exclusion.ensures (none-fit 0 0 (omega arith));
    }
