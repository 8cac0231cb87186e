use Prim.Native.Nat.{ℕ, ◌+◌, ◌-◌}
use native.Mathlib.Omega.{arith}
use mathlib.Core.Path.{◌≡◌, refl, sym, ap, ◌∙◌}
use mathlib.Core.Bool.{not}
use lib.Dec.{eqb}
use lib.ListN.{length}
use Rattle.std.proofs.Common.{rules}
use Rattle.std.proofs.lemmas.Iterator.{YieldsList-from_range}
use Rattle.std.proofs.lemmas.Iterator.Consumers.{count_from_yields_List, YieldsList-from_filter}
use Rattle.format.specs.Records.{record_here, records_here}
use Rattle.clearing.specs.Cleared.{cleared_by, left_by}
use Rattle.clearing.proofs.Left.{left-run}
use Rattle.clearing.proofs.room.kept_between.Goals as goal

pub returns : goal.returns
returns c =
    let a = c.args in
    let e = a.ending in
    let d : a.from + (a.to - a.from) ≡ a.to = omega arith in
    let run = left-run e.each a.q.now e.rules.0 a.table.now a.from (a.to - a.from) in
    let counted =
    count_from_yields_List c.filter.result _ c.count.ensures.ran
    (YieldsList-from_filter _ (λ i. not (eqb (cleared_by e.each a.q.now e.rules.0 (record_here a.table.now i)).marks 0))
    (YieldsList-from_range a.from a.to (a.to - a.from) c.filter.ensures.source refl) c.filter.ensures.closure (λ x b q k. search rules)) in
    rw d at run ∙ ap (λ (n : ℕ). length (left_by e.each a.q.now e.rules.0 (records_here a.table.now a.from)) + n) (sym counted)
