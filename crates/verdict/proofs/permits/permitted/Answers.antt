use Rattle.std.proofs.Common.{rules, tests, ℕ, refl, ◌∙◌}
use native.Mathlib.Nat.{sub-zero}
use Rattle.std.proofs.lemmas.Iterator.{YieldsList-from_range}
use Rattle.std.proofs.lemmas.Iterator.Search.{any_from_yields_List}
use Rattle.words.specs.Lists.{any_of}
use Rattle.format.specs.Block.{blocks}
use Rattle.format.specs.Policy.{permissions_at}
use Rattle.judge.specs.Verdict.{grants}
use Rattle.verdict.proofs.Chains.{any-lists}
use Rattle.verdict.proofs.Permissions.{all-entries}
use Rattle.verdict.proofs.permits.permitted.Goals as goal

pub returns : goal.returns
returns c =
    let s = c.args.policy.now in
    let q = c.args.q.now in
    let n = blocks s in
    any_from_yields_List (λ (k : ℕ). any_of (grants q) (permissions_at s k)) _ _ _ c.any.ensures.ran
    (YieldsList-from_range 0 n n refl (sub-zero n)) (λ x b q k. search (rules, tests))
    ∙ any-lists (grants q) (permissions_at s) 0 n
    ∙ all-entries s q
