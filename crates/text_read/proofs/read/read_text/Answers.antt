use Prim.Native.Nat.{◌-◌}
use native.Mathlib.Omega.{arith}
use mathlib.Core.Path.{◌≡◌, ap, subst, ◌∙◌, sym}
use mathlib.Core.Option.{none, some}
use lib.ListN.{length}
use Rattle.std.specs.Prelude.{Result, Ok}
use Rattle.std.proofs.lemmas.Result.{err_from_is_err_and}
use Rattle.table_write.proofs.SliceBytes.{slice-bytes}
use Rattle.format.specs.Answer.{refusal}
use Rattle.format.specs.Code.{text_fault_of}
use Rattle.format.specs.declared.answer.TextRefusal.{TextRefusal}
use Rattle.format.specs.Block.{blocks}
use Rattle.format_laws.proofs.AcceptedPolicy.{rules-few, policy-blocked}
use Rattle.forms.specs.Form.{reach}
use Rattle.xml.specs.Grammar.{set}
use Rattle.xml.specs.Read.{good_tags}
use Rattle.xml_calls.specs.Calls.{read_fault}
use Rattle.text_read.specs.Stands.{ReadIs}
use Rattle.text_read.proofs.LookLaws.{number_fits}
use Rattle.text_read.proofs.WholeFault.{reach-within, good-beginning, tag-fault, form-fault, faultless, refused}
use Rattle.text_read.proofs.WholeImage.{image-fits, image-read}
use Rattle.text_read.proofs.read.read_text.Goals.{After-new-sheet, After-read_tags-read, In_ok-read, In_default, in-Ok, in-Err}
use Rattle.text_read.proofs.read.read_text.Goals as goal

-- the tags up to the byte that was reached are asked for
ended : (c : After-new-sheet) → c.match-reached.end ≡ reach set c.args.text.now
ended c =
    elim c.match-reached.branch [
      | in-Ok w ↦ w.end-is ∙ sym w.in-Ok.ensures.1
      | in-Err w ↦ (rw w.in-Err.is at w.end-is) ∙ sym w.in-Err.ensures.1
    ]

-- they were read
taken : (c : After-read_tags-read) → let a = c.args in
    ReadIs a.names.now.list.now a.second.now.image.now (length a.output.now) (good_tags a.text.now) c.read_tags-read.new.self c.read_tags-read.result
taken c =
    let a = c.args in
    let p = a.second.now in
    good-beginning a.text.now (ended (goal.at.After-read_tags-read c).After-new-sheet)
    (c.read_tags-read.ensures p.image.now (ap (λ n. blocks p.image.now - n) p.rules_are))

-- without a fault
read : (c : In_ok-read) → let a = c.args in
    ReadIs a.names.now.list.now a.second.now.image.now (length a.output.now) (good_tags a.text.now) c.read_tags-read.new.self (Ok tt)
read c =
    let a = c.args in
    subst
    (λ (r : Result (Unit {0}) TextRefusal).
    ReadIs a.names.now.list.now a.second.now.image.now (length a.output.now) (good_tags a.text.now) c.read_tags-read.new.self r)
    c.in_ok-read.was (taken (goal.at.In_ok-read c).After-read_tags-read)

-- and the text is of the form
no-fault : (c : In_default) → let a = c.args in read_fault a.text.now a.names.now.list.now a.second.now.image.now (length a.output.now) ≡ none
no-fault c =
    let a = c.args in
    let p = a.second.now in
    faultless a.text.now a.names.now.list.now p.image.now (length a.output.now) p.accepted a.names.now.good (read (goal.at.In_default c).In_ok-read).fault
    c.in_default.ensures.0

pub overflow_sub-source : goal.overflow_sub-source
overflow_sub-source c = let p = c.args.second.now in omega (arith, rules-few p.image.now p.accepted, p.rules_are)

pub invariant_of-source : goal.invariant_of-source
invariant_of-source c =
    let p = c.args.second.now in
    record {
      numbers = number_fits c.args.names.now.list.now (slice-bytes _ (λ i. record { fits = c.args.names.now.bytes i }));
      few = omega (arith, (policy-blocked p.image.now p.accepted).not-over);
    }

pub read_tags-read-requires : goal.read_tags-read-requires
read_tags-read-requires c =
    let t = c.args.text.now in (omega (arith, ended (goal.at.read_tags-read-requires c).After-new-sheet, reach-within set t), c.new-sheet.ensures t)

pub returns-in_err-read : goal.returns-in_err-read
returns-in_err-read c =
    let p = err_from_is_err_and c.from_residual.result c.from_residual.ensures.1 in
    let a = c.args in
    let q = a.second.now in
    let t = taken (goal.at.returns-in_err-read c).After-read_tags-read in
    rw (p.1, p.2)
    (refused _
    (tag-fault a.text.now a.names.now.list.now q.image.now (length a.output.now) q.accepted a.names.now.good
    (ap (λ (r : Result (Unit {0}) TextRefusal). text_fault_of r) (sym c.in_err-read.was) ∙ t.fault))
    a.output.now _)

pub returns-in-Err-reached : goal.returns-in-Err-reached
returns-in-Err-reached c =
    let a = c.args in
    let p = a.second.now in
    let told = c.in-Err-reached.ensures in
    refused _
    (form-fault a.text.now a.names.now.list.now p.image.now (length a.output.now) p.accepted a.names.now.good
    (read (goal.at.returns-in-Err-reached c).In_ok-read).fault told.0
    ∙ ap (λ n. some (refusal 41 n 0)) told.1)
    a.output.now _

pub write_image-requires : goal.write_image-requires
write_image-requires c =
    let a = c.args in
    let p = a.second.now in
    let f = image-fits a.text.now a.names.now.list.now p.image.now (length a.output.now) (no-fault (goal.at.write_image-requires c).In_default)
    (read (goal.at.write_image-requires c).In_ok-read) p.rules p.rules_are in
    record { rules_in_bounds = f.0; first_bound = f.1 }

pub returns : goal.returns
returns c =
    let w = c.write_image in
    let a = c.args in
    image-read a.text.now a.names.now.list.now a.second.now.image.now (length a.output.now) (no-fault (goal.at.returns c).In_default)
    (read (goal.at.returns c).In_ok-read) a.output.now w.ensures.0 w.ensures.1
