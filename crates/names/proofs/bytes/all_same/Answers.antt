use native.Mathlib.Numerals.{add-one}
use native.Mathlib.Omega.{arith}
use mathlib.Core.Path.{◌≡◌, sym, ◌∙◌}
use lib.ListN.{length}
use Rattle.words.specs.Lists.{all_below}
use Rattle.names.proofs.SameParts.{same_lists}
use borrow.Author.Rules.{rules}
use Rattle.names.proofs.bytes.all_same.Goals as goal

pub loop-i-init : goal.loop-i-init
unfolding all_below
loop-i-init c = search rules

pub loop-i-preserved : goal.loop-i-preserved
unfolding all_below
loop-i-preserved c = (omega arith, rw (add-one c.loop-i.i) (cc))

pub returns : goal.returns
returns c =
    let a = c.args in
    let e : c.loop-i.i ≡ length a.a.now = omega arith in
    rw e at c.loop-i.invariant.1 ∙ sym (same_lists a.a.now a.b.now (length a.a.now) (omega arith) (omega arith))
