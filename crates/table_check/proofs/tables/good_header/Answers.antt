use Prim.Native.Nat.{◌≤◌}
use native.Mathlib.Omega.{arith}
use mathlib.Core.Path.{◌≡◌, sym, ◌∙◌}
use Rattle.table_check.specs.CheckParts.{good_table_heading, good_table_head}
use Rattle.table_check.proofs.TableBlock.{few-records}
use Rattle.table_check.proofs.tables.good_header.Goals.{After-good_heading, After-count-count}
use Rattle.table_check.proofs.tables.good_header.Goals as goal

heading : (c : After-good_heading) → let a = c.args in good_table_heading a.short a.k a.n a.b.now ≡ c.good_heading.result
heading c = sym c.good_heading.ensures

few : (c : After-count-count) → c.count-count.result ≤ 15
few c =
    let a = c.args in
    rw c.count-count.ensures (few-records a.short a.k a.n a.b.now (heading (goal.at.After-count-count c).After-good_heading ∙ c.if-not-good_heading.false))

pub returns-then-not-good_heading : goal.returns-then-not-good_heading
unfolding good_table_head
returns-then-not-good_heading c = rw (heading (goal.at.returns-then-not-good_heading c).After-good_heading ∙ c.if-not-good_heading.true)

pub overflow_sub-count : goal.overflow_sub-count
overflow_sub-count c = few (goal.at.overflow_sub-count c).After-count-count

pub zero_from-requires-2 : goal.zero_from-requires-2
zero_from-requires-2 c = omega (arith, few (goal.at.zero_from-requires-2 c).After-count-count)

pub returns : goal.returns
unfolding good_table_head
returns c =
    rw (heading (goal.at.returns c).After-good_heading ∙ c.if-not-good_heading.false)
    (rw (c.zero_from.ensures, c.zero_from-2.ensures, c.count-count.ensures))
