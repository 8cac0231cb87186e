-- Sets of rules as numbers, the rule of index i at bit i: what a request is to the rules of a policy.
-- Assumes nothing.
use Rattle.std.specs.Prelude.{ℕ, ◌≡◌, Bool, not, ◌&&◌, ◌||◌}
use Rattle.words.specs.Bytes.{bits}
use Rattle.format.specs.Request.{Request}
use Rattle.format.specs.Rule.{is_set}
use Rattle.format.specs.Fits.{fits}
use Rattle.format.specs.Policy.{Policy}
use Rattle.judge.specs.Verdict.{is_first, is_last, judges}
use Rattle.judge.specs.NewTable.{ends, gives}
use Rattle.matching.specs.declared.rules.Matched.{Matched}
use Rattle.matching.specs.declared.rules.Effect.{Effect}

-- the rules that it fits
unfoldable pub fitting_in : Policy → Request → ℕ
fitting_in p q = bits p.rules (λ i. fits (p.rule i) q)

-- those of them that have no first step, or whose first step it is
unfoldable pub starting_in : Policy → Request → ℕ
starting_in p q = bits p.rules (λ i. fits (p.rule i) q && (not (is_set (p.rule i).first_step) || is_first (p.rule i) q))

-- those whose last step it is
unfoldable pub last_in : Policy → Request → ℕ
last_in p q = bits p.rules (λ i. is_last (p.rule i) q)

pub record MatchedIs (p : Policy) (q : Request) (m : Matched) : Type 0 where
  pub fitting-are : m.fitting.0 ≡ fitting_in p q
  pub starting-are : m.starting.0 ≡ starting_in p q
  pub last-are : m.last.0 ≡ last_in p q

-- ---- where `open` says which rules' run places are open

-- the rules that judge it
unfoldable pub judging_in : Policy → Request → (ℕ → Bool) → ℕ
judging_in p q «open» = bits p.rules (λ i. judges (p.rule i) q («open» i))

-- the rules that end with it, and those whose marks it gets
pub record EffectIs (p : Policy) (q : Request) («open» : ℕ → Bool) (e : Effect) : Type 0 where
  pub ends-are : e.ends.0 ≡ bits p.rules (ends p q «open»)
  pub gives-are : e.gives.0 ≡ bits p.rules (gives p q «open»)
