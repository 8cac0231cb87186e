use Rattle.std.proofs.Common.{◌+◌, ◌*◌, arith, le-ltb, lt-ltb, eq-eqb, ne_eqb}
use Rattle.words.specs.Bytes.{byte_at}
use Rattle.format.specs.Rule.{rule_at}
use Rattle.rule_tests.specs.Shapes.{level_mask}
use Rattle.rule_tests.proofs.shapes.level_mask.Goals as goal

pub returns-then-from-l : goal.returns-then-from-l
unfolding level_mask rule_at
returns-then-from-l c = let a = c.args in rw (le-ltb a.l (byte_at a.b.now 8) (omega (arith, c.from.ensures)))

pub returns-then-b-l-eq-FIXED : goal.returns-then-b-l-eq-FIXED
unfolding level_mask rule_at
returns-then-b-l-eq-FIXED c =
    let a = c.args in
    rw (lt-ltb a.l (byte_at a.b.now 8) (omega (arith, c.from.ensures)), eq-eqb (byte_at a.b.now (18 + 8 * a.l)) 1 c.if-b-l-eq-FIXED.true)

pub returns : goal.returns
unfolding level_mask rule_at
returns c =
    let a = c.args in
    rw (c.from-2.ensures, lt-ltb a.l (byte_at a.b.now 8) (omega (arith, c.from.ensures)), ne_eqb (byte_at a.b.now (18 + 8 * a.l)) 1 c.if-b-l-eq-FIXED.false)
