use Prim.Native.Nat.{ℕ, ◌-◌, ◌≤◌}
use mathlib.Core.Path.{◌≡◌}
use mathlib.Core.List.{List}
use mathlib.Core.Option.{Option}
use Rattle.words.specs.First.{first}
use Rattle.format.specs.Answer.{Refusal}
use Rattle.format.specs.Layout.{most_rules}
use Rattle.format.specs.Request.{Request}
use Rattle.verdict.specs.Code.{rule_fails}
use Rattle.verdict.specs.declared.search.Judging.{Judging}
use Rattle.verdict.proofs.Nested.{left}
use Rattle.verdict.proofs.Searching.{fails_at, counts}
use Rattle.verdict.proofs.search.search.Given as goal

-- what each rule says to the search, and what the search has to find
abbrev pub fails : List ℕ → Judging → Request → List ℕ → List ℕ → ℕ → Option Refusal
fails policy judging q table found = rule_fails policy judging.rules.0 judging.each q table found

abbrev pub whole : List ℕ → Judging → Request → List ℕ → List ℕ → Option Refusal
whole policy judging q table found = first (fails policy judging q table found) 0 most_rules

abbrev pub invariant-loop-e : goal.invariant-loop-e
invariant-loop-e l =
    left (fails l.policy l.judging l.q l.table l.found) (fails_at l.b l.i (counts l.judging.each l.q l.table l.found l.i)) l.i most_rules l.e l.e-end ≡ whole l.policy l.judging l.q l.table l.found

abbrev pub invariant-rules : goal.invariant-rules
invariant-rules l =
    (l.i ≤ most_rules) × (first (fails l.policy l.judging l.q l.table l.found) l.i (most_rules - l.i) ≡ whole l.policy l.judging l.q l.table l.found)

abbrev pub decreases-rules : goal.decreases-rules
decreases-rules l = most_rules - l.i
