-- What examining a request comes to: the refusal that a decision of it gives, or all that steps 4 and 5 need.
-- Assumes nothing.
use Rattle.std.specs.Prelude.{ℕ, ◌≡◌, List, Result, Ok, Err}
use Rattle.format.specs.Answer.{refuse}
use Rattle.format.specs.Code.{refusal_of}
use Rattle.judge.specs.Decide.{decide}
use Rattle.sums.specs.Code.{sums_of}
use Rattle.matching.specs.Masks.{NearOf}
use Rattle.update.specs.Updating.{Judged, update_of}
use Rattle.engine.specs.declared.examining.Pass.{Pass}
use Rattle.format.specs.declared.answer.Refusal.{Refusal}
use Rattle.answers.specs.Code.{outcome}

-- a request that has passed: steps 4 and 5 have what they need, and the decision is what they say
pub record PassIs (policy table request : List ℕ) (p : Pass) : Type 0 where
  pub same : p.request.now ≡ request
  pub judged : Judged policy (sums_of p.stamp) p.ending p.gives p.request.now table p.held
  pub near : NearOf p.ending.each p.ending.rules.0 p.request.now table p.held p.ending.near
  pub rest : update_of policy table p.request.now ≡ decide policy table request

abbrev pub ExaminedIs : List ℕ → List ℕ → List ℕ → Result Pass Refusal → Type 0
ExaminedIs policy table request (Err r) = outcome (refuse (refusal_of r)) table ≡ decide policy table request
ExaminedIs policy table request (Ok p) = PassIs policy table request p
