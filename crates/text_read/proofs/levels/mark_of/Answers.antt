use native.Mathlib.Omega.{arith}
use mathlib.Core.Path.{◌≡◌, sym, ◌∙◌}
use mathlib.Core.List.{[], ◌∷◌}
use lib.ListN.{get_or}
use Rattle.tags.specs.Code.{value_at}
use Rattle.text_read.proofs.LevelMarks.{mark-long, one_byte, mark-every, mark-each, mark-other}
use Rattle.text_read.proofs.levels.mark_of.Goals.{Else-squeeze-ne1}
use Rattle.text_read.proofs.levels.mark_of.Goals as goal

pub returns-then-squeeze-ne1 : goal.returns-then-squeeze-ne1
returns-then-squeeze-ne1 c =
    let a = c.args in
    mark-long (value_at a.text.now a.s) (λ one. c.if-squeeze-ne1.true (c.squeeze.ensures.0 ∙ one))

-- the value is the one byte in the buffer
one :
    (c : Else-squeeze-ne1)
    → value_at c.args.text.now c.args.s
    ≡ get_or c.squeeze.new.buffer 0 0 ∷ []
one c =
    let a = c.args in
    one_byte (value_at a.text.now a.s) c.squeeze.new.buffer (sym c.squeeze.ensures.0 ∙ c.if-squeeze-ne1.false) c.squeeze.ensures.1

pub returns-in-42 : goal.returns-in-42
returns-in-42 c = mark-every (one (goal.at.returns-in-42 c).Else-squeeze-ne1) c.in-42.is

pub returns-in-33 : goal.returns-in-33
returns-in-33 c = mark-each (one (goal.at.returns-in-33 c).Else-squeeze-ne1) c.in-33.is

pub returns-in_default : goal.returns-in_default
returns-in_default c = mark-other (one (goal.at.returns-in_default c).Else-squeeze-ne1) (omega arith) (omega arith)
