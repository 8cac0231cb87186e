use Prim.Native.Nat.{◌+◌, ◌<◌}
use native.Mathlib.Omega.{arith}
use mathlib.Core.Path.{◌≡◌, sym, ap, ◌∙◌}
use Rattle.words.specs.Bytes.{bits}
use Rattle.word_laws.proofs.BitLaws.{bits-start}
use Rattle.format.specs.Policy.{policy_of}
use Rattle.format_laws.proofs.AcceptedPolicy.{rules-most}
use Rattle.matching.specs.Masks.{is_each, each_at}
use Rattle.matching.proofs.RuleSets.{bits-next}
use Rattle.matching.proofs.masks.each_at.Goals.{After-flag-mask, After-is_each}
use Rattle.matching.proofs.masks.each_at.Goals as goal

pub loop-i-init : goal.loop-i-init
loop-i-init c = (omega arith, sym (bits-start _))

pub is_each-requires : goal.is_each-requires
is_each-requires c = (c.requires, omega arith)

few : (c : After-is_each) → c.loop-i.i < 32
few c = let p = c.args.policy.now in omega (arith, rules-most p.image.now p.accepted, p.rules_are)

pub flag-mask-requires : goal.flag-mask-requires
flag-mask-requires c = few c

set : (c : After-flag-mask) → let l = c.loop-i in let a = c.args in
    (l.mask + c.flag-mask.result ≡ bits (l.i + 1) (is_each (policy_of a.policy.now.image.now) a.l)) × (l.mask + c.flag-mask.result < 4294967296)
set c = bits-next _ _ (few (goal.at.After-flag-mask c).After-is_each) c.loop-i.invariant.1 c.is_each.ensures c.flag-mask.ensures

pub overflow_add-mask : goal.overflow_add-mask
overflow_add-mask c = omega (arith, (set c).1)

pub loop-i-preserved : goal.loop-i-preserved
loop-i-preserved c = (omega arith, (set c).0)

pub returns : goal.returns
unfolding each_at policy_of
returns c =
    let a = c.args in
    let p = a.policy.now in
    let e : c.loop-i.i ≡ p.rules = omega arith in
    c.loop-i.invariant.1 ∙ ap (λ n. bits n (is_each (policy_of p.image.now) a.l)) (e ∙ p.rules_are)
