-- What the values of the code stand for.
-- Assumes nothing.
use Rattle.std.specs.Prelude.{ℕ, ◌+◌, ◌*◌, ◌≤◌, ◌≡◌, Bool, List, length}
use Rattle.words.specs.Bytes.{bit}
use Rattle.format.specs.Layout.{block_bytes, table_blocks, capacity}
use Rattle.format.specs.Block.{blocks}
use Rattle.format.specs.Request.{Request, operation, target}
use Rattle.format.specs.Rule.{Privilege}
use Rattle.fields.specs.declared.privilege.Privilege as declared
use Rattle.fields.specs.declared.blocks.BlockSet.{BlockSet}
use Rattle.fields.specs.declared.kind.ExclusionKind.{ExclusionKind}
use Rattle.fields.specs.declared.kind.ExclusionKind.TheVariants.{Roles, Privileges}
use Rattle.fields.specs.declared.kind.Mark.{Mark}
use Rattle.fields.specs.declared.kind.Mark.TheVariants.{Fixed, Every, Each, Range}

-- a privilege, as the code hands it on
abbrev pub privilege_of : declared.Privilege → Privilege
privilege_of p = record { operation = p.operation.0; target = p.target.0 }

-- what a request does: its operation, on its target
abbrev pub done_by : Request → Privilege
done_by q = record { operation = operation q; target = target q }

-- operation and target in one number, as their bytes stand
abbrev pub packed_of : Privilege → ℕ
packed_of p = p.operation + 65536 * p.target

-- a table's image: some blocks, that have room for n records
pub record HasRoom (table : List ℕ) (n : ℕ) : Type 0 where
  pub whole : length table ≡ block_bytes * blocks table
  pub most : blocks table ≤ table_blocks
  pub few : n ≤ capacity (blocks table)

-- block k is in a set of blocks
unfoldable pub has_block : BlockSet → ℕ → Bool
has_block set k = bit k set.0

-- the set without a block
abbrev pub no_block : BlockSet
no_block = record { 0 = 0 }

-- "Exclusion kind 1: members are roles .. Kind 2: operation, target"
abbrev pub exclusion_code : ExclusionKind → ℕ
exclusion_code Roles = 1
exclusion_code Privileges = 2

-- "Marks: 1 fixed .., 2 every, 3 each", and 4 a range
abbrev pub mark_code : Mark → ℕ
mark_code Fixed = 1
mark_code Every = 2
mark_code Each = 3
mark_code Range = 4
