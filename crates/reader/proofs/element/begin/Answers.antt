use native.Mathlib.Omega.{arith}
use mathlib.Core.Path.{◌≡◌, refl, sym, ap, ◌∙◌}
use Rattle.std.proofs.Common.{max, rules}
use lib.ListN.{length, drop, length-drop}
use Rattle.words.specs.Lists.{all_below}
use Rattle.reader.specs.Table.{elements}
use Rattle.reader.specs.Begin.{longest}
use Rattle.reader.proofs.Beginnings.{none_more, longest-more, longest-fits, begins-tag, begins-none}
use Rattle.reader.proofs.element.begin.Goals as goal

pub loop-c-init : goal.loop-c-init
unfolding longest all_below
loop-c-init c = (omega arith, (refl, refl))

pub returns-then-n-word : goal.returns-then-n-word
returns-then-n-word c = let a = c.args in
    let l = c.loop-c in
    let e = c.share-n.ensures in
    let whole = ap length c.word.ensures in
    rw e (begins-tag a.s c.requires.1 a.text.now a.at c.requires.0 l.c c.loop-c-test.true (sym e ∙ c.if-n-word.true ∙ whole))

pub loop-c-preserved : goal.loop-c-preserved
loop-c-preserved c = let a = c.args in
    let l = c.loop-c in
    let u = drop a.at a.text.now in
    let e = c.share-n.ensures in
    let test = c.loop-c-test.true in
    let most : c.max-best.result ≡ max l.best c.share-n.result = search rules in (
      omega arith,
      (
        most ∙ longest-more a.s u l.c c.share-n.result l.best e l.invariant.1.0,
        none_more a.s u l.c c.share-n.result l.best e l.invariant.1.1 (λ d. c.if-n-word.false (d ∙ sym (ap length c.word.ensures))),
      ),
    )

pub overflow_add-result-2 : goal.overflow_add-result-2
overflow_add-result-2 c = let a = c.args in
    let l = c.loop-c in
    let e = l.invariant.1.0 in
    let fit = longest-fits a.s (drop a.at a.text.now) l.c in
    let long = length-drop a.at a.text.now in
    omega arith

pub returns : goal.returns
returns c = let a = c.args in
    let l = c.loop-c in
    let end : l.c ≡ elements = omega arith in
    let inv = rw end at l.invariant.1 in
    rw inv.0 (begins-none a.s c.requires.1 a.text.now a.at c.requires.0 inv.1)
