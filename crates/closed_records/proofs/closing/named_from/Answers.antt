use native.Mathlib.Omega.{arith}
use mathlib.Core.Path.{◌≡◌, sym, ap, ◌∙◌}
use Rattle.format.specs.Context.{begins}
use Rattle.format.specs.Records.{record_from, record_here}
use Rattle.closed_records.proofs.Closed.{named_more}
use Rattle.closed_records.proofs.closing.named_from.Goals.{After-begins}
use Rattle.closed_records.proofs.closing.named_from.Goals as goal

pub loop-i-init : goal.loop-i-init
loop-i-init c = (omega arith, c.requires.from_le_n.0, λ k lo hi. absurd (omega arith))

pub record_start-requires : goal.record_start-requires
record_start-requires c = let h = c.requires.from_le_n.1 in omega (arith, c.loop-i-test.true, h.most, h.few)

pub begins-requires : goal.begins-requires
begins-requires c = let h = c.requires.from_le_n.1 in record { levels_value = c.requires.levels_value; request_bytes_in_bounds = omega (arith, c.record_start.ensures, c.loop-i-test.true, h.whole, h.few) }

-- what is said of record i
said : (b : After-begins) → let a = b.args in
    begins a.context.now (record_here a.table.now b.loop-i.i).request ≡ b.begins.result
said b =
    let a = b.args in
    sym (b.begins.ensures ∙ ap (λ at. begins a.context.now (record_from a.table.now at).request) b.record_start.ensures)

pub returns-then-begins : goal.returns-then-begins
returns-then-begins c =
    let l = c.loop-i in
    (l.invariant.0, omega (arith, c.loop-i-test.true), l.invariant.2, λ h. said (goal.at.returns-then-begins c).After-begins ∙ c.if-begins.true)

pub loop-i-preserved : goal.loop-i-preserved
loop-i-preserved c =
    let l = c.loop-i in
    let a = c.args in
    (omega (arith, l.invariant.0), omega (arith, c.loop-i-test.true), named_more a.context.now a.table.now a.from l.i l.invariant.2 (said (goal.at.loop-i-preserved c).After-begins ∙ c.if-begins.false))

pub returns : goal.returns
returns c =
    let l = c.loop-i in
    (c.requires.from_le_n.0, omega arith, (λ k lo hi. l.invariant.2 k lo (omega (arith, c.loop-i-test.false, hi))), λ h. absurd (omega arith))
