use Rattle.format.specs.Table.{good_stamp}
use Rattle.table_check.proofs.tables.good_stamp.Goals as goal

pub returns : goal.returns
unfolding good_stamp
returns c = rw (c.u32_at.ensures, c.u32_at-2.ensures)
