use Prim.Native.Nat.{ℕ, ◌+◌}
use native.Mathlib.Omega.{arith}
use mathlib.Core.Path.{sym, ap, ◌∙◌}
use lib.ListN.{length}
use borrow.Author.Tests.{eqb-true, eqb-false}
use Rattle.format.specs.Records.{records_here}
use Rattle.clearing.proofs.Left.{length-here}
use Rattle.clearing.proofs.After.{after_none, after-count, left-few}
use Rattle.clearing.proofs.room.held_after.Goals as goal

pub returns-then-is_empty : goal.returns-then-is_empty
returns-then-is_empty c =
    let a = c.args in
    let none = eqb-true a.gives.0 0 (sym c.is_empty.ensures ∙ c.if-is_empty.true) in
    c.kept-left.ensures
    ∙ sym (ap length (after_none a.ending.each a.q.now a.ending.rules.0 a.gives.0 (records_here a.table.now a.n) none))

pub overflow_add-result : goal.overflow_add-result
overflow_add-result c =
    let a = c.args in
    record {
      fits = omega (
        arith,
        c.kept-left.ensures,
        left-few a.ending.each a.q.now a.ending.rules.0 (records_here a.table.now a.n),
        length-here a.table.now a.n,
        c.requires.room.few,
        c.requires.room.most,
      );
    }

pub returns : goal.returns
returns c =
    let a = c.args in
    let some = eqb-false a.gives.0 0 (sym c.is_empty.ensures ∙ c.if-is_empty.false) in
    ap (λ (m : ℕ). m + 1) c.kept-left.ensures
    ∙ sym (after-count a.ending.each a.q.now a.ending.rules.0 a.gives.0 (records_here a.table.now a.n) some)
