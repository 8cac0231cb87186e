use Rattle.std.proofs.Common.{rules, tests, ℕ, refl, sym, ◌∙◌}
use native.Mathlib.Nat.{sub-zero}
use Rattle.std.proofs.lemmas.Iterator.{YieldsList-from_range}
use Rattle.std.proofs.lemmas.Iterator.Search.{any_from_yields_List}
use Rattle.format.specs.Policy.{permission_at}
use Rattle.judge.specs.Verdict.{grants}
use Rattle.verdict.proofs.Chains.{any-elements}
use Rattle.verdict.proofs.Permissions.{no-entries, its-entries}
use Rattle.verdict.proofs.permits.block_permits.Goals as goal

pub returns-then-u32_at-ne-PERMISSION_KIND : goal.returns-then-u32_at-ne-PERMISSION_KIND
returns-then-u32_at-ne-PERMISSION_KIND c =
    let a = c.args in
    no-entries a.b.now a.q.now (λ e. c.if-u32_at-ne-PERMISSION_KIND.true (c.u32_at.ensures ∙ e))

pub returns : goal.returns
returns c =
    let a = c.args in
    let n = c.u16_at-n.result in
    let is = sym c.u32_at.ensures ∙ c.if-u32_at-ne-PERMISSION_KIND.false in
    any_from_yields_List (λ (i : ℕ). grants a.q.now (permission_at a.b.now i)) _ _ _ c.any.ensures.ran
    (YieldsList-from_range 0 n n refl (sub-zero n)) (λ x b q k. search (rules, tests))
    ∙ any-elements (grants a.q.now) (permission_at a.b.now) 0 n
    ∙ its-entries a.b.now a.q.now is n c.u16_at-n.ensures.0
