use mathlib.Core.Path.{◌≡◌, sym, ◌∙◌}
use mathlib.Core.Bool.{true}
use borrow.Author.Tests.{not-true, not-false}
use Rattle.request_check.specs.RequestWords.{used_word}
use Rattle.request_check.proofs.RequestWords.{levels-none, levels-half, levels-one, levels-one-half, levels-two}
use mathlib.Core.Path.{ap}
use mathlib.Core.Bool.{not}
use Rattle.request_check.proofs.context.good_levels.Goals.{Else-not-used}
use Rattle.request_check.proofs.context.good_levels.Goals as goal

first-used : (c : Else-not-used) → used_word c.args.w ≡ true
first-used c = sym c.used.ensures ∙ not-false c.used.result (ap not c.if-not-used.false)

pub returns-then-w-eq0 : goal.returns-then-w-eq0
returns-then-w-eq0 c = let a = c.args in levels-none a.w a.x a.y a.z c.if-w-eq0.true

pub returns-then-not-used : goal.returns-then-not-used
returns-then-not-used c =
    let a = c.args in
    levels-half a.w a.x a.y a.z c.if-w-eq0.false (sym c.used.ensures ∙ not-true c.used.result (ap not c.if-not-used.true))

pub returns-then-x-eq0 : goal.returns-then-x-eq0
returns-then-x-eq0 c = let a = c.args in levels-one a.w a.x a.y a.z (first-used (goal.at.returns-then-x-eq0 c).Else-not-used) c.if-x-eq0.true

pub returns-then-not-used-2 : goal.returns-then-not-used-2
returns-then-not-used-2 c =
    let a = c.args in
    levels-one-half a.w a.x a.y a.z (first-used (goal.at.returns-then-not-used-2 c).Else-not-used) c.if-x-eq0.false
    (sym c.used-2.ensures ∙ not-true c.used-2.result (ap not c.if-not-used-2.true))

pub returns : goal.returns
returns c =
    let a = c.args in
    c.good_last_levels.ensures
    ∙ levels-two a.w a.x a.y a.z (first-used (goal.at.returns c).Else-not-used)
    (sym c.used-2.ensures ∙ not-false c.used-2.result (ap not c.if-not-used-2.false))
