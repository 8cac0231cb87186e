use mathlib.Core.Path.{sym, ◌∙◌}
use Rattle.std.proofs.lemmas.Result.{err_from_is_err_and}
use Rattle.xml.specs.Read.{privilege_of}
use Rattle.tags.specs.Code.{value_at}
use Rattle.text_read.proofs.LookLaws.{privilege-fits}
use Rattle.text_read.proofs.TurnPlaces.{place-fault, place-now}
use Rattle.text_read.proofs.sheet.Sheet.take_privilege.Goals as goal

pub returns-in_err-p : goal.returns-in_err-p
returns-in_err-p c =
    let p = err_from_is_err_and c.from_residual.result c.from_residual.ensures.1 in
    let a = c.args in
    let t = a.source.now in
    λ second s h.
    rw (p.1, p.2)
    (record {
      fault =
          c.in_err-p.ensures.fault
          ∙ sym (place-fault a.place t.names.list.now second t.room s (value_at t.text.now a.operation) (value_at t.text.now a.target));
      now = tt;
    })

pub returns : goal.returns
returns c =
    let a = c.args in
    let t = a.source.now in
    let l = t.names.list.now in
    let o = value_at t.text.now a.operation in
    let u = value_at t.text.now a.target in
    λ second s h.
    record {
      fault = c.in_ok-p.ensures.fault ∙ sym (place-fault a.place l second t.room s o u);
      now =
          place-now a.place l s o u
          (c.put_privilege.ensures t.text.now s (privilege_of l o u) c.in_ok-p.ensures.privilege (privilege-fits l t.numbers o u) h);
    }
