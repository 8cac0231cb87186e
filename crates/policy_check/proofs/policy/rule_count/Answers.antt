use Prim.Native.Nat.{ℕ, ◌+◌, ◌/◌}
use mathlib.Core.Path.{◌≡◌, refl, sym, ap, ◌∙◌}
use native.Mathlib.Omega.{arith}
use lib.ListN.{length}
use Rattle.words.specs.Lists.{sum_below}
use Rattle.format.specs.Policy.{rule_count}
use Rattle.policy_check.proofs.BlockFields.{kind-of-block}
use Rattle.policy_check.proofs.PolicyBlock.{rule-more, rule-none}
use Rattle.policy_check.proofs.policy.rule_count.Goals.{then-u32_at-eq-RULE_KIND, else-u32_at-eq-RULE_KIND}
use Rattle.policy_check.proofs.policy.rule_count.Goals as goal

pub loop-k-init : goal.loop-k-init
unfolding sum_below
loop-k-init c = (omega arith, (omega arith, refl))

pub loop-k-preserved : goal.loop-k-preserved
loop-k-preserved c =
    let s = c.args.s.now in
    let l = c.loop-k in
    let e = kind-of-block s l.k ∙ sym c.u32_at.ensures in
    elim c.if-u32_at-eq-RULE_KIND.branch [
      | then-u32_at-eq-RULE_KIND w ↦
          (omega arith, (omega arith, w.rules-is ∙ ap (λ (x : ℕ). x + 1) l.invariant.1.1 ∙ rule-more s l.k (e ∙ w.if-u32_at-eq-RULE_KIND.true)))
      | else-u32_at-eq-RULE_KIND w ↦
          (omega arith, (omega arith, w.rules-is ∙ l.invariant.1.1 ∙ rule-none s l.k (λ f. w.if-u32_at-eq-RULE_KIND.false (sym e ∙ f))))
    ]

pub returns : goal.returns
unfolding rule_count
returns c = let e : c.loop-k.k ≡ length c.args.s.now / 512 = omega arith in rw e at c.loop-k.invariant.1.1
