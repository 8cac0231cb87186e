-- Run places by masks: a number stands for a set of rules, rule i + 1 at bit i. Two contexts lie in different run places of a rule
-- exactly where they differ in value at one of its levels with mark 3, each; so four masks, one a level, tell all rules at once.
-- Assumes nothing.
use Rattle.std.specs.Prelude.{ℕ, ◌-◌, ◌/◌, ◌<◌, ◌≡◌, Bool, false, cond, not, ◌&&◌, List, eqb, ltb}
use Rattle.std.specs.Int.Bits.{bit_and, bit_or}
use Rattle.words.specs.Bytes.{bits}
use Rattle.format.specs.Request.{Request, context_of, level_value}
use Rattle.format.specs.Fits.{same_place}
use Rattle.format.specs.Policy.{Policy}
use Rattle.format.specs.Layout.{block_records}
use Rattle.format.specs.Records.{record_here}
use Rattle.fields.specs.declared.blocks.BlockSet.{BlockSet}
use Rattle.fields.specs.Code.{has_block}
use Rattle.matching.specs.declared.masks.Each.{Each}

-- the rule of index i has mark 3, "each", at level l: one of the levels that its depth counts
unfoldable pub is_each : Policy → ℕ → ℕ → Bool
is_each p l i = ltb l (p.rule i).depth && eqb ((p.rule i).level l).mark 3

-- the rules that have it there
unfoldable pub each_at : Policy → ℕ → ℕ
each_at p l = bits p.rules (is_each p l)

-- the code's four masks are those of a policy's four levels
pub record EachOf (p : Policy) (e : Each) : Type 0 where
  pub at_first : e.first.0 ≡ each_at p 0
  pub at_second : e.second.0 ≡ each_at p 1
  pub at-third : e.third.0 ≡ each_at p 2
  pub at-fourth : e.fourth.0 ≡ each_at p 3

-- the rules under which two requests have different run places
unfoldable pub apart_in : Policy → Request → Request → ℕ
apart_in p q x = bits p.rules (λ i. not (same_place (p.rule i) q x))

-- what the code computes: a level's mask where the two requests differ in value at that level; those of all levels but the second; and all four
abbrev pub apart_at : Request → Request → ℕ → ℕ → ℕ
apart_at q x l mask = cond (eqb (level_value (context_of q) l) (level_value (context_of x) l)) 0 mask

unfoldable pub apart_beside : Each → Request → Request → ℕ
apart_beside e q x = bit_or (bit_or (apart_at q x 0 e.first.0) (apart_at q x 2 e.third.0)) (apart_at q x 3 e.fourth.0)

unfoldable pub apart_by : Each → Request → Request → ℕ
apart_by e q x = bit_or (apart_beside e q x) (apart_at q x 1 e.second.0)

-- of a set of rules, those under which the two requests share a run place
unfoldable pub together_by : Each → ℕ → Request → Request → ℕ
together_by e rules q x = rules - bit_and rules (apart_by e q x)

-- outside a set of blocks none of the first n records of a table is marked for one of these rules in the request's run place
abbrev pub NearOf : Each → ℕ → Request → List ℕ → ℕ → BlockSet → Type 0
NearOf e rules q s n near =
    (i : ℕ) → i < n → has_block near (i / block_records) ≡ false → bit_and (record_here s i).marks (together_by e rules q (record_here s i).request) ≡ 0
