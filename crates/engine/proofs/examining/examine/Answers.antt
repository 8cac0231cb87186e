use Prim.Native.Nat.{ℕ}
use mathlib.Core.Path.{◌≡◌, sym, ap, ◌∙◌}
use mathlib.Core.List.{List}
use Rattle.std.proofs.lemmas.Result.{err_from_is_err_and}
use Rattle.sums.specs.Code.{sums_of}
use Rattle.judge.specs.Decide.{decide}
use Rattle.table_check.proofs.Here.{accepted-small}
use Rattle.table_write.proofs.SliceBytes.{slice-bytes}
use Rattle.update.proofs.Standing.{Standing, standing}
use Rattle.engine.proofs.Decided.{by-policy, by-table, by-request, by-verdict}
use Rattle.engine.proofs.Judged.{verdict-is, effect_is, update-is}
use Rattle.engine.proofs.examining.examine.Goals.{After-record_count-held}
use Rattle.engine.proofs.examining.examine.Goals as goal

pub returns-in_err-checked : goal.returns-in_err-checked
returns-in_err-checked c =
    let p = err_from_is_err_and c.from_residual.result c.from_residual.ensures.1 in
    rw (p.1, p.2) (by-policy _ _ _ _ (sym c.in_err-checked.ensures.fault))

pub returns-in_err-table_fault : goal.returns-in_err-table_fault
returns-in_err-table_fault c =
    let k = c.in_ok-checked in
    let r = c.from_residual-in_err-table_fault in
    let p = err_from_is_err_and r.result r.ensures.1 in
    rw (p.1, p.2) (by-table _ _ _ (sym k.ensures.fault) _ (rw k.ensures.image at (sym c.in_err-table_fault.ensures)))

pub returns-in_err-asked : goal.returns-in_err-asked
returns-in_err-asked c =
    let k = c.in_ok-checked in
    let r = c.from_residual-in_err-asked in
    let p = err_from_is_err_and r.result r.ensures.1 in
    rw (p.1, p.2) (by-request _ _ _ (sym k.ensures.fault) (rw k.ensures.image at (sym c.in_ok-table_fault.ensures)) _ (sym c.in_err-asked.ensures.fault))

pub record_count-held-requires : goal.record_count-held-requires
record_count-held-requires c = accepted-small _ _ (sym c.in_ok-table_fault.ensures)

-- the table stands for its records
stands : (k : After-record_count-held) → let a = k.args in Standing k.in_ok-checked.checked.image.now (sums_of k.stamp-stamp.result) a.table.now k.record_count-held.result
stands k = standing (slice-bytes _ k.type_inv.table) (sym k.in_ok-table_fault.ensures) k.stamp-stamp.ensures k.record_count-held.ensures

pub verdict_of-requires-clause-has_room : goal.verdict_of-requires-clause-has_room
verdict_of-requires-clause-has_room c =
    (stands (goal.at.verdict_of-requires-clause-has_room c).After-record_count-held).room

pub returns-in_err-verdict : goal.returns-in_err-verdict
returns-in_err-verdict c =
    let k = c.in_ok-checked in
    let x = c.in_ok-asked in
    let r = c.from_residual-in_err-verdict in
    let p = err_from_is_err_and r.result r.ensures.1 in
    let st = stands (goal.at.returns-in_err-verdict c).After-record_count-held in
    let fails = rw (k.ensures.image, x.ensures.request) at (sym (verdict-is _ _ _ _ st _ _ _ c.in_err-verdict.ensures)) in
    rw (p.1, p.2) (by-verdict _ _ _ (sym k.ensures.fault) (rw k.ensures.image at (sym c.in_ok-table_fault.ensures)) (sym x.ensures.fault) _ fails)

pub returns : goal.returns
returns c =
    let k = c.in_ok-checked in
    let x = c.in_ok-asked in
    let is = c.in_ok-verdict.ensures in
    let st = stands (goal.at.returns c).After-record_count-held in
    let table-good = rw k.ensures.image at (sym c.in_ok-table_fault.ensures) in
    let passes = rw k.ensures.image at (sym (verdict-is _ _ _ _ st _ _ _ is)) in
    record {
      same = x.ensures.request;
      judged = record {
        accepted = sym k.ensures.fault;
        stamp-is = rw k.ensures.image at c.stamp-stamp.ensures;
        accepted-table = table-good;
        held-are = c.record_count-held.ensures;
        masks = rw k.ensures.image at c.each_of-each.ensures;
        effect_is = rw k.ensures.image at (effect_is _ _ _ _ st _ _ _ is);
      };
      near = is.near-is;
      rest =
          update-is _ _ _ (sym k.ensures.fault) table-good (rw (← x.ensures.request) at (sym x.ensures.fault)) passes
          ∙ ap (λ (q : List ℕ). decide c.args.policy.now c.args.table.now q) x.ensures.request;
    }
