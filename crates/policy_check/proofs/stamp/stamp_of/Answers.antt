use Prim.Native.Nat.{◌*◌}
use mathlib.Core.Path.{◌≡◌, refl, sym, ap, ◌∙◌}
use native.Mathlib.Omega.{arith}
use native.Mathlib.Numerals.{add-one}
use Rattle.words.specs.Sums.{Sums, add_words, sums, words}
use Rattle.word_laws.proofs.Parts.{part_length}
use Rattle.format.specs.Block.{block, blocks}
use Rattle.policy_check.proofs.PolicyBlock.{block-part}
use Rattle.policy_check.proofs.Stamps.{accepted-check, stamp-more, stamp-all}
use Rattle.policy_check.proofs.stamp.stamp_of.Goals.{At-loop-k, Start}
use Rattle.policy_check.proofs.stamp.stamp_of.Goals as goal

pub loop-k-init : goal.loop-k-init
unfolding sums words add_words
loop-k-init c = (omega arith, refl)

pub add_block-sum-requires : goal.add_block-sum-requires
add_block-sum-requires c =
    let a = (goal.at.add_block-sum-requires c).At-loop-k in
    let image = c.args.s.now in
    let k = a.loop-k.k in
    rw c.block.ensures (accepted-check image c.requires k (omega (arith, c.loop-k-test.true)))

pub loop-k-preserved : goal.loop-k-preserved
loop-k-preserved c =
    let a = (goal.at.loop-k-preserved c).At-loop-k in
    let image = c.args.s.now in
    let k = a.loop-k.k in
    let done = rw c.block.ensures at c.add_block-sum.ensures in (
      omega arith,
      rw (add-one k)
          (done ∙ ap (λ (t : Sums). add_words t (words (block image k))) a.loop-k.invariant.1
          ∙ sym (stamp-more image k (omega (arith, c.loop-k-test.true)))),
    )

pub returns : goal.returns
returns c =
    let l = c.loop-k in
    let s = (goal.at.returns c).Start in
    let e : l.k ≡ blocks s.args.s.now = omega arith in
    (rw e at l.invariant.1) ∙ stamp-all s.args.s.now s.requires
