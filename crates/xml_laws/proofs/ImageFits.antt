-- When a rule's numbers fit their bytes: those of 2 bytes are below 65536, those of 1 byte below 256.
-- Assumes nothing.
use Prim.Native.Nat.{ℕ, ◌<◌}
use Rattle.format.specs.Layout.{most_levels, most_exclusions, most_members}
use Rattle.format.specs.Rule.{Level, Privilege, Exclusion, Rule}

pub record PrivilegeFits (p : Privilege) : Type 0 where
  pub operation-fits : p.operation < 65536
  pub target_fits : p.target < 65536

pub record LevelFits (l : Level) : Type 0 where
  pub type-fits : l.type < 65536
  pub mark-fits : l.mark < 256
  pub pad-fits : l.pad < 256
  pub value-fits : l.value < 65536
  pub tail-fits : l.tail < 65536

pub record ExclusionFits (x : Exclusion) : Type 0 where
  pub kind_fits : x.kind < 256
  pub m-fits : x.m < 256
  pub n-fits : x.n < 256
  pub pad-fits : x.pad < 256
  pub members-fit : (i : ℕ) → i < most_members → PrivilegeFits (x.member i)

-- all numbers of a rule: its four levels, both steps, eight exclusions and their eight members
pub record Fits (r : Rule) : Type 0 where
  pub depth-fits : r.depth < 256
  pub exclusions-fits : r.exclusions < 256
  pub first-flag-fits : r.first_step.flag < 256
  pub last-flag-fits : r.last_step.flag < 256
  pub first_fits : PrivilegeFits r.first_step.privilege
  pub last_fits : PrivilegeFits r.last_step.privilege
  pub levels-fit : (i : ℕ) → i < most_levels → LevelFits (r.level i)
  pub exclusions-fit : (e : ℕ) → e < most_exclusions → ExclusionFits (r.exclusion e)
