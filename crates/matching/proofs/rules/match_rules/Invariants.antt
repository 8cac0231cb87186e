use Prim.Native.Nat.{ℕ, ◌≤◌}
use mathlib.Core.Path.{◌≡◌}
use mathlib.Core.Bool.{Bool, not, ◌&&◌, ◌||◌}
use mathlib.Core.List.{List}
use Rattle.words.specs.Bytes.{bits}
use Rattle.format.specs.Block.{block}
use Rattle.format.specs.Request.{Request}
use Rattle.format.specs.Rule.{rule_at, is_set}
use Rattle.format.specs.Fits.{fits}
use Rattle.judge.specs.Verdict.{is_first, is_last}
use Rattle.matching.proofs.rules.match_rules.Given as goal

-- what the rule of a block is to the request
abbrev pub fit : Request → List ℕ → Bool
fit q b = fits (rule_at b) q

abbrev pub start : Request → List ℕ → Bool
start q b = fit q b && (not (is_set (rule_at b).first_step) || is_first (rule_at b) q)

abbrev pub final : Request → List ℕ → Bool
final q b = is_last (rule_at b) q

-- the set of the first rules of which that holds
abbrev pub those : (Request → List ℕ → Bool) → List ℕ → Request → ℕ → ℕ
those f policy q n = bits n (λ i. f q (block policy i))

abbrev pub invariant-loop-i : goal.invariant-loop-i
invariant-loop-i l =
    (l.i ≤ l.rules) × ((l.fitting ≡ those fit l.policy.image.now l.q l.i) × ((l.starting ≡ those start l.policy.image.now l.q l.i) × (l.last ≡ those final l.policy.image.now l.q l.i)))
