use Prim.Native.Nat.{ℕ}
use mathlib.Core.Path.{refl, sym, ap, ◌∙◌}
use borrow.Author.Tests.{le-leb, lt-leb}
use Rattle.std.proofs.lemmas.Result.{err_from_is_err_and}
use Rattle.words.specs.First.{◌or_else◌}
use Rattle.word_laws.proofs.First.{unless-passes, unless-fails}
use Rattle.format.specs.Answer.{refusal}
use Rattle.xml.specs.Read.{tag_fault, after_tag, role_fault, role_of, with_member}
use Rattle.tags.specs.Code.{value_at}
use Rattle.drafts.specs.Draft.{exclusion_block}
use Rattle.text_read.proofs.LookLaws.{role-fits}
use Rattle.text_read.proofs.StandsNow.{more-fit, exclusion-now}
use Rattle.text_read.proofs.sheet.Sheet.take_role.Goals as goal

pub returns-in_err-role : goal.returns-in_err-role
unfolding tag_fault role_fault ◌or_else◌
returns-in_err-role c =
    let p = err_from_is_err_and c.from_residual.result c.from_residual.ensures.1 in
    λ second s h. rw (p.1, p.2) (record { fault = rw (← c.in_err-role.ensures.fault) refl; now = tt })

pub returns-then-role-gt-HIGHEST_ROLE : goal.returns-then-role-gt-HIGHEST_ROLE
unfolding tag_fault role_fault ◌or_else◌
returns-then-role-gt-HIGHEST_ROLE c =
    let told = c.in_ok-role.ensures in
    λ second s h.
    record {
      fault = rw (← told.fault, ← told.number) (sym (unless-fails (refusal 43 0 0) (lt-leb _ 32 c.if-role-gt-HIGHEST_ROLE.true)));
      now = tt;
    }

pub returns : goal.returns
unfolding tag_fault role_fault after_tag role_of ◌or_else◌
returns c =
    let told = c.in_ok-role.ensures in
    let t = c.args.source.now in
    let v = value_at t.text.now c.args.value in
    λ second s h.
    record {
      fault = rw (← told.fault, ← told.number) (sym (unless-passes (refusal 43 0 0) (le-leb _ 32 c.if-role-gt-HIGHEST_ROLE.false)));
      now =
          exclusion-now h (with_member s.exclusion (role_of t.names.list.now v))
          (c.add_role.ensures s.exclusion h.exclusion
          ∙ ap (λ (n : ℕ). exclusion_block (with_member s.exclusion (record { operation = n; target = 0 }))) told.number)
          (more-fit s.exclusion (role_of t.names.list.now v) h.members (role-fits t.names.list.now t.numbers v));
    }
