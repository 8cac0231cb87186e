use Prim.Native.Nat.{ℕ, ◌+◌}
use mathlib.Core.Path.{ap₂}
use Rattle.request_check.specs.RequestWords.{used_words}
use Rattle.request_check.proofs.context.used_levels.Goals.{After-used_count-2, After-used_count-3}
use Rattle.request_check.proofs.context.used_levels.Goals as goal

pub returns : goal.returns
unfolding used_words
returns c =
    let d = (goal.at.returns c).After-used_count-3 in
    let e = (goal.at.returns c).After-used_count-2 in
    ap₂ {C = ℕ} (λ (m n : ℕ). m + n)
    (ap₂ {C = ℕ} (λ (m n : ℕ). m + n)
    (ap₂ {C = ℕ} (λ (m n : ℕ). m + n) c.used_count.ensures.0 e.used_count-2.ensures.0)
    d.used_count-3.ensures.0)
    c.used_count-4.ensures.0
