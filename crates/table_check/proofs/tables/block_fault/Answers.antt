use mathlib.Core.Path.{◌≡◌, sym, ◌∙◌}
use mathlib.Core.Bool.{true}
use Rattle.sums.specs.Code.{sums_of}
use Rattle.format.specs.Block.{good_check}
use Rattle.format.specs.Table.{good_stamp}
use Rattle.table_check.specs.CheckParts.{good_table_head}
use Rattle.table_check.proofs.TableBlock.{few-records, heading-of, bad-check, bad-head, bad-stamp, by-records}
use Rattle.table_check.proofs.tables.block_fault.Goals.{Else-not-good_check, Else-not-good_header, Else-not-good_stamp}
use Rattle.table_check.proofs.tables.block_fault.Goals as goal

-- what each of them says
checked : (c : Else-not-good_check) → good_check c.args.b.now ≡ true
checked c = sym c.good_check.ensures ∙ c.if-not-good_check.false

headed : (c : Else-not-good_header) → let a = c.args in good_table_head a.short a.k a.n a.b.now ≡ true
headed c = sym c.good_header.ensures ∙ c.if-not-good_header.false

stamped : (c : Else-not-good_stamp) → let a = c.args in good_stamp (sums_of a.stamp) a.b.now ≡ true
stamped c = sym c.good_stamp.ensures ∙ c.if-not-good_stamp.false

pub returns-then-not-good_check : goal.returns-then-not-good_check
returns-then-not-good_check c = let a = c.args in bad-check a.short a.k a.n a.b.now _ _ (sym c.good_check.ensures ∙ c.if-not-good_check.true)

pub returns-then-not-good_header : goal.returns-then-not-good_header
returns-then-not-good_header c =
    let a = c.args in
    bad-head a.short a.k a.n a.b.now _ _ (checked (goal.at.returns-then-not-good_header c).Else-not-good_check) (sym c.good_header.ensures ∙ c.if-not-good_header.true)

pub returns-then-not-good_stamp : goal.returns-then-not-good_stamp
returns-then-not-good_stamp c =
    let a = c.args in
    bad-stamp a.short a.k a.n a.b.now _ _ (checked (goal.at.returns-then-not-good_stamp c).Else-not-good_check) (headed (goal.at.returns-then-not-good_stamp c).Else-not-good_header)
    (sym c.good_stamp.ensures ∙ c.if-not-good_stamp.true)

pub records_fault-requires : goal.records_fault-requires
records_fault-requires c =
    let a = c.args in
    few-records a.short a.k a.n a.b.now (heading-of a.short a.k a.n a.b.now (headed (goal.at.records_fault-requires c).Else-not-good_header))

pub returns : goal.returns
returns c =
    let a = c.args in
    c.records_fault.ensures
    ∙ by-records a.short a.k a.n a.b.now _ _ (checked (goal.at.returns c).Else-not-good_check) (headed (goal.at.returns c).Else-not-good_header) (stamped (goal.at.returns c).Else-not-good_stamp)
