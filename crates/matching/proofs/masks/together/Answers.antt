use Prim.Native.Nat.{ℕ, ◌-◌}
use native.Mathlib.Omega.{arith}
use mathlib.Core.Path.{◌≡◌, sym, ap, ◌∙◌}
use borrow.Author.Tests.{eqb-true}
use lib.Bits.{bit_and}
use Rattle.word_laws.proofs.BitLaws.{without-or}
use Rattle.words.specs.Bytes.{part}
use Rattle.format.specs.Layout.{request_bytes}
use Rattle.format.specs.Request.{Request}
use Rattle.matching.specs.declared.masks.Each.{Each}
use Rattle.matching.specs.Masks.{apart_at, apart_beside, apart_by, together_by}
use Rattle.matching.proofs.masks.together.Goals.{After-without-near}
use Rattle.matching.proofs.masks.together.Goals as goal

-- first the second level, then the others
module _ (e : Each) (rules : ℕ) (q x : Request) {near : ℕ} (is : near ≡ rules - bit_and rules (apart_at q x 1 e.second.0)) where
  then-others : near - bit_and near (apart_beside e q x) ≡ together_by e rules q x
  unfolding together_by apart_by
  then-others =
      ap (λ (n : ℕ). n - bit_and n (apart_beside e q x)) is ∙ sym (without-or rules (apart_beside e q x) (apart_at q x 1 e.second.0))

  none_left : near ≡ 0 → near ≡ together_by e rules q x
  none_left z = omega (arith, z, then-others)

-- what is near is what the second level leaves
near-is :
    (c : After-without-near)
    → let a = c.args in
    c.without-near.result.0 ≡ a.rules.0 - bit_and a.rules.0 (apart_at a.q.now (part a.s.now a.at request_bytes) 1 a.each.second.0)
near-is c =
    let a = c.args in
    c.without-near.ensures ∙ ap (λ (x : ℕ). a.rules.0 - bit_and a.rules.0 x) c.apart_at.ensures

pub returns-then-is_empty : goal.returns-then-is_empty
returns-then-is_empty c =
    let near = (goal.at.returns-then-is_empty c).After-without-near in
    let a = c.args in
    none_left a.each a.rules.0 a.q.now (part a.s.now a.at request_bytes) (near-is near)
    (eqb-true near.without-near.result.0 0 (sym c.is_empty.ensures ∙ c.if-is_empty.true))

pub returns : goal.returns
returns c =
    let near = (goal.at.returns c).After-without-near in
    let a = c.args in
    c.without.ensures
    ∙ ap (λ (x : ℕ). near.without-near.result.0 - bit_and near.without-near.result.0 x) c.apart_beside.ensures
    ∙ then-others a.each a.rules.0 a.q.now (part a.s.now a.at request_bytes) (near-is near)
