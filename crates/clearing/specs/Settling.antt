-- The state of a pass that settles records one after the other, whatever is to be left of them.
-- Assumes nothing.
use Rattle.std.specs.Prelude.{ℕ, ◌<◌, ◌≤◌, ◌≡◌, List, [], ◌∷◌, ◌++◌, Option, Some, None}
use Rattle.format.specs.Table.{Record}
use Rattle.format.specs.Records.{record_here, records_here}
use Rattle.fields.specs.declared.blocks.BlockSet.{BlockSet}
use Rattle.fields.specs.declared.sets.RuleSet.{RuleSet}
use Rattle.table_write.specs.Writing.{Placed}

-- what is left of a list is what is left of each of its records
pub record OneByOne (rest : List Record → List Record) : Type 0 where
  pub nothing : rest [] ≡ []
  pub more : (rs : List Record) (r : Record) → rest (rs ++ (r ∷ [])) ≡ rest rs ++ rest (r ∷ [])

-- table t, that was s, after i records, of which j stand in front; and the blocks in which another record stands than before
pub record Settling (rest : List Record → List Record) (s : List ℕ) (i : ℕ) (t : List ℕ) (j : ℕ) (set : BlockSet) : Type 0 where
  pub by_one : OneByOne rest
  pub records : records_here t j ≡ rest (records_here s i)
  pub placed : Placed s t j set
  pub few : j ≤ i

-- the records of s from one place up to another stay as they are
abbrev pub StayIn : (List Record → List Record) → List ℕ → ℕ → ℕ → Type 0
StayIn rest s from to = (k : ℕ) → from ≤ k → k < to → rest (record_here s k ∷ []) ≡ record_here s k ∷ []

-- what is left of a record by itself: nothing, or the record with these marks, which it had
abbrev pub LeftIs : (List Record → List Record) → Record → Option RuleSet → Type 0
LeftIs rest r None = rest (r ∷ []) ≡ []
LeftIs rest r (Some m) = (m.0 ≤ r.marks) × (rest (r ∷ []) ≡ record { request = r.request; marks = m.0 } ∷ [])
