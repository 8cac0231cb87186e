use Rattle.forms.specs.Form.{ascii}
use Rattle.format.specs.Rule.{level_at}
use Rattle.text_write.proofs.Texts.{value-fixed, value-every, value-each}
use Rattle.text_write.proofs.rule.put_value.Goals as goal

pub returns-then-mark-eq-FIXED : goal.returns-then-mark-eq-FIXED
returns-then-mark-eq-FIXED c =
    let a = c.args in
    value-fixed a.names.now.list.now (level_at a.b.now a.i) c.put_name.result c.if-mark-eq-FIXED.true (rw (c.u16_at-value.ensures.0, c.code.ensures) at c.put_name.ensures.puts)

pub returns-then-mark-eq-EVERY : goal.returns-then-mark-eq-EVERY
unfolding ascii
returns-then-mark-eq-EVERY c =
    let a = c.args in
    value-every a.names.now.list.now (level_at a.b.now a.i) c.if-mark-eq-EVERY.true c.put.ensures

pub returns : goal.returns
unfolding ascii
returns c =
    let a = c.args in
    value-each a.names.now.list.now (level_at a.b.now a.i) c.if-mark-eq-FIXED.false c.if-mark-eq-EVERY.false c.put-2.ensures
