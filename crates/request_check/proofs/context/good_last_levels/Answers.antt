use mathlib.Core.Path.{sym, ◌∙◌}
use borrow.Author.Tests.{not-true, not-false}
use Rattle.request_check.proofs.RequestWords.{last_none, last-half, last_one}
use mathlib.Core.Path.{ap}
use mathlib.Core.Bool.{not}
use Rattle.request_check.proofs.context.good_last_levels.Goals as goal

pub returns-then-y-eq0 : goal.returns-then-y-eq0
returns-then-y-eq0 c = let a = c.args in last_none a.y a.z c.if-y-eq0.true

pub returns-then-not-used : goal.returns-then-not-used
returns-then-not-used c =
    let a = c.args in
    last-half a.y a.z c.if-y-eq0.false (sym c.used.ensures ∙ not-true c.used.result (ap not c.if-not-used.true))

pub returns : goal.returns
returns c =
    let a = c.args in
    rw c.used-2.ensures (last_one a.y a.z (sym c.used.ensures ∙ not-false c.used.result (ap not c.if-not-used.false)))
