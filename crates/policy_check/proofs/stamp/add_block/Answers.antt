use Prim.Native.Nat.{ℕ}
use mathlib.Core.Path.{sym, ap₂, ◌∙◌}
use native.Mathlib.Omega.{arith}
use Rattle.words.specs.Sums.{Sums, add_word}
use Rattle.word_laws.proofs.Sums.{Fit}
use Rattle.sums.specs.Code.{sums_of, go_on}
use Rattle.policy_check.proofs.Stamps.{block-sums}
use Rattle.policy_check.proofs.stamp.add_block.Goals.{After-add_checked, After-u32_at, Start}
use Rattle.policy_check.proofs.stamp.add_block.Goals as goal

pub returns : goal.returns
returns c =
    let k = (goal.at.returns c).After-add_checked in
    let u = (goal.at.returns c).After-u32_at in
    let s = (goal.at.returns c).Start in
    let sum : Sums = sums_of s.args.sum in
    let fit : Fit sum = record { a-fits = omega (arith, s.well_formed); b-fits = omega (arith, s.well_formed) } in
    let a = u.u32_at.ensures in
    let b = c.u32_at-2.ensures in
    c.add-2.ensures
    ∙ ap₂ {C = Sums} add_word
    (c.add.ensures
    ∙ ap₂ {C = Sums} add_word (k.add_checked.ensures ∙ ap₂ (λ (x y : ℕ). go_on sum 126 (record { a = x; b = y })) a b) a)
    b
    ∙ sym (block-sums s.args.b.now s.told-b s.requires sum fit)
