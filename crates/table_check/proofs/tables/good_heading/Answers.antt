use Rattle.table_check.specs.CheckParts.{good_table_heading}
use Rattle.table_check.proofs.tables.good_heading.Goals as goal

pub returns : goal.returns
unfolding good_table_heading
returns c = rw (c.count-count.ensures, c.u32_at.ensures, c.u16_at.ensures.0, c.u16_at-2.ensures.0)
