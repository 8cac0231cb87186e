use native.Mathlib.Omega.{arith}
use Prim.Native.Nat.{◌+◌}
use mathlib.Core.Path.{◌≡◌, sym, ◌∙◌}
use Rattle.word_laws.proofs.First.{unless-passes, unless-fails, first-start, first-hit, first_more, first_done}
use Rattle.format.specs.Answer.{refusal}
use Rattle.format.specs.Policy.{policy_of}
use Rattle.format.specs.Table.{count, record_at, good_record}
use Rattle.table_check.specs.CheckParts.{record_fault_at}
use Rattle.table_check.proofs.Here.{record-from}
use Rattle.table_check.proofs.tables.records_fault.Goals.{After-good_record}
use Rattle.table_check.proofs.tables.records_fault.Goals as goal

-- what `good_record` says of record i
said : (c : After-good_record) → let a = c.args in good_record (policy_of a.tests.now.policy.image.now) (record_at a.b.now c.loop-i.i) ≡ c.good_record.result
said c = rw (record-from c.args.b.now c.loop-i.i) (sym c.good_record.ensures)

pub returns-then-not-good_record : goal.returns-then-not-good_record
returns-then-not-good_record c =
    let l = c.loop-i in
    first-hit _ l.i (count c.args.b.now) l.invariant (omega (arith, c.count-i-end.ensures))
    (unless-fails (refusal 15 c.args.k (l.i + 1)) (said (goal.at.returns-then-not-good_record c).After-good_record ∙ c.if-not-good_record.true))

pub loop-i-preserved : goal.loop-i-preserved
loop-i-preserved c =
    let l = c.loop-i in
    first_more _ l.i (count c.args.b.now) l.invariant (omega (arith, c.count-i-end.ensures))
    (unless-passes (refusal 15 c.args.k (l.i + 1)) (said (goal.at.loop-i-preserved c).After-good_record ∙ c.if-not-good_record.false))

pub returns : goal.returns
returns c = first_done _ _ _ c.loop-i.invariant (omega (arith, c.count-i-end.ensures))
