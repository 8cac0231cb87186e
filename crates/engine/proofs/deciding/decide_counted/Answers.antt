use mathlib.Core.Path.{sym, ◌∙◌}
use Rattle.std.proofs.lemmas.Result.{err_from_is_err_and}
use Rattle.format.specs.Block.{blocks}
use Rattle.format.specs.Table.{records_of}
use Rattle.format_laws.proofs.Altered.{blocks-none}
use Rattle.format_laws.proofs.Rows.{counted}
use Rattle.judge.specs.Written.{decided_blocks}
use Rattle.table_write.proofs.SliceBytes.{slice-bytes}
use Rattle.update.proofs.Standing.{standing}
use Rattle.engine.proofs.deciding.decide_counted.Goals as goal

pub returns-in_err-p : goal.returns-in_err-p
unfolding decided_blocks
returns-in_err-p c =
    let p = err_from_is_err_and c.from_residual.result c.from_residual.ensures.1 in
    let t = c.args.table.now in
    let refused = c.in_err-p.ensures in
    rw (p.1, p.2) (refused, counted t refused (sym (blocks-none (blocks t) (records_of t))))

pub update-requires : goal.update-requires
update-requires c =
    let p = c.in_ok-p.ensures in
    let j = p.judged in
    let stands = standing (slice-bytes _ c.slice_known-1.given) j.accepted-table j.stamp-is j.held-are in
    record { ready = record { room = stands.room; marked = stands.marked; near = p.near }; table_value = stands.image }

pub returns : goal.returns
unfolding decided_blocks
returns c =
    let p = c.in_ok-p.ensures in
    let after = c.update.ensures _ p.judged in
    let decided = after.0 ∙ p.rest in
    (decided, counted c.args.table.now decided after.1)
