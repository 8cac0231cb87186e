use Prim.Native.Nat.{ℕ, ◌-◌}
use mathlib.Core.Path.{sym, ap, ◌∙◌}
use borrow.Author.Tests.{eqb-true}
use lib.Bits.{bit_and, bit_or}
use Rattle.words.specs.Bytes.{part}
use Rattle.matching.proofs.Together.{together-shallow}
use Rattle.matching.proofs.masks.together_of.Goals.{After-and, After-is_empty, Then-is_empty}
use Rattle.matching.proofs.masks.together_of.Goals as goal

pub returns-then-is_empty : goal.returns-then-is_empty
returns-then-is_empty c =
    let e = (goal.at.returns-then-is_empty c).Then-is_empty in
    let n = (goal.at.returns-then-is_empty c).After-is_empty in
    let w = (goal.at.returns-then-is_empty c).After-and in
    let a = c.args in
    let none =
    sym (n.and.ensures ∙ ap (λ (x : ℕ). bit_and x a.rules.0) (w.or-within.ensures ∙ ap (λ (x : ℕ). bit_or x a.each.fourth.0) c.or.ensures))
    ∙ eqb-true n.and.result.0 0 (sym e.is_empty.ensures ∙ c.if-is_empty.true) in
    c.without.ensures
    ∙ ap (λ (x : ℕ). a.rules.0 - bit_and a.rules.0 x) c.apart_at.ensures
    ∙ together-shallow a.each a.rules.0 a.q.now (part a.s.now a.at 28) none
