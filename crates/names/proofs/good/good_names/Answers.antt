use native.Mathlib.Omega.{arith}
use mathlib.Core.Path.{◌≡◌, refl, sym, ◌∙◌}
use Rattle.xml.specs.Names.{names}
use Rattle.words.specs.Lists.{all_below}
use Rattle.names.proofs.GoodLists.{bad_size, part-before, part-more, part-bad, all-good}
use Rattle.names.proofs.good.good_names.Goals as goal

pub returns-then-n-list : goal.returns-then-n-list
returns-then-n-list c = let h = c.then-n-list.either in sym (bad_size _ (λ e. omega arith))

pub loop-from-init : goal.loop-from-init
unfolding all_below
loop-from-init c = (omega arith, refl)

pub good_part-requires : goal.good_part-requires
good_part-requires c =
    let l = c.loop-from in
    (omega arith, part-before c.args.list.now l.from l.invariant.1)

pub returns-then-not-good_part : goal.returns-then-not-good_part
returns-then-not-good_part c =
    let l = c.loop-from in
    sym (part-bad c.args.list.now l.from c.min-few.result (omega arith) (sym c.good_part.ensures ∙ c.if-not-good_part.true))

pub loop-from-preserved : goal.loop-from-preserved
loop-from-preserved c =
    let l = c.loop-from in
    (omega arith, part-more c.args.list.now l.from c.min-few.result l.invariant.1 (sym c.good_part.ensures ∙ c.if-not-good_part.false))

pub returns : goal.returns
returns c =
    let l = c.loop-from in
    let all : names c.args.list.now ≡ l.from = omega arith in
    sym (all-good c.args.list.now (omega arith) (omega arith) (rw all l.invariant.1))
