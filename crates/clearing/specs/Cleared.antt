-- Step 4 on sets of rules: records cleared of the marks of the rules that end, the rule of index i at bit i of a number, and those that are left.
-- Assumes nothing.
use Rattle.std.specs.Prelude.{ℕ, ◌-◌, ◌≡◌, List, [], ◌∷◌, ◌++◌, map}
use Rattle.std.specs.Int.Bits.{bit_and}
use Rattle.format.specs.Request.{Request}
use Rattle.format.specs.Table.{Record}
use Rattle.format.specs.Records.{records_here}
use Rattle.judge.specs.NewTable.{sweep}
use Rattle.fields.specs.Code.{HasRoom}
use Rattle.fields.specs.declared.sets.RuleSet.{RuleSet}
use Rattle.matching.specs.declared.masks.Each.{Each}
use Rattle.matching.specs.Masks.{together_by, NearOf}
use Rattle.clearing.specs.declared.ending.Ending.{Ending}

-- the marks that a record of the request x keeps, where the rules of the set `ends` end: it loses those of the rules under which it
-- shares the run place of the request q
unfoldable pub kept_marks : Each → Request → ℕ → Request → ℕ → ℕ
kept_marks e q ends x marks = marks - bit_and marks (together_by e ends q x)

-- the record with the marks that it keeps
unfoldable pub cleared_by : Each → Request → ℕ → Record → Record
cleared_by e q ends r = record { request = r.request; marks = kept_marks e q ends r.request r.marks }

-- the records that are left of a list
unfoldable pub left_by : Each → Request → ℕ → List Record → List Record
left_by e q ends rs = sweep (map (cleared_by e q ends) rs)

-- the records that a table then holds: what is left of its own, and the request, if it has a mark
unfoldable pub after_by : Each → Request → ℕ → ℕ → List Record → List Record
after_by e q ends gives rs = left_by e q ends rs ++ sweep (record { request = q; marks = gives } ∷ [])

-- each of the first n records of a table has a mark
abbrev pub AllMarked : List ℕ → ℕ → Type 0
AllMarked s n = sweep (records_here s n) ≡ records_here s n

-- the same two, of what the code hands on
abbrev pub left_of : Ending → Request → List Record → List Record
left_of e q rs = left_by e.each q e.rules.0 rs

abbrev pub after_of : Ending → RuleSet → Request → List Record → List Record
after_of e given q rs = after_by e.each q e.rules.0 given.0 rs

-- a table is ready for what a grant takes from its first n records: it has room for them, each has a mark, and outside the blocks `near` none of them is
-- marked in the request's run place of a rule that ends
pub record Ready (e : Ending) (q : Request) (s : List ℕ) (n : ℕ) : Type 0 where
  pub room : HasRoom s n
  pub marked : AllMarked s n
  pub near : NearOf e.each e.rules.0 q s n e.near
