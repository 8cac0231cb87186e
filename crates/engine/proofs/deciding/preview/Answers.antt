use Prim.Native.Nat.{ℕ}
use mathlib.Core.Path.{ap, ◌∙◌}
use mathlib.Core.List.{List}
use Rattle.std.proofs.lemmas.Result.{err_from_is_err_and}
use Rattle.format.specs.Answer.{Outcome}
use Rattle.judge.specs.Preview.{preview}
use Rattle.table_write.proofs.SliceBytes.{slice-bytes}
use Rattle.update.proofs.Standing.{standing}
use Rattle.engine.proofs.deciding.preview.Goals as goal

pub returns-in_err-pass : goal.returns-in_err-pass
unfolding preview
returns-in_err-pass c =
    let p = err_from_is_err_and c.from_residual.result c.from_residual.ensures.1 in
    rw (p.1, p.2) (ap (λ (o : Outcome (List ℕ)). o.answer) c.in_err-pass.ensures)

pub foresee-requires : goal.foresee-requires
foresee-requires c =
    let p = c.in_ok-pass.ensures in
    let j = p.judged in
    let stands = standing (slice-bytes _ c.type_inv.table) j.accepted-table j.stamp-is j.held-are in
    record { room = stands.room; marked = stands.marked; near = p.near }

pub returns : goal.returns
unfolding preview
returns c =
    let p = c.in_ok-pass.ensures in
    c.foresee.ensures _ _ p.judged ∙ ap (λ (o : Outcome (List ℕ)). o.answer) p.rest
