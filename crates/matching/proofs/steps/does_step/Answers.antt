use mathlib.Core.Path.{ap, ap₂, ◌∙◌}
use mathlib.Core.Bool.{Bool, ◌&&◌}
use lib.Dec.{eqb}
use Rattle.words.specs.Bytes.{byte_at}
use Rattle.word_laws.proofs.Parts.{part-whole}
use Rattle.format.specs.Request.{Request}
use Rattle.format.specs.Rule.{same_privilege}
use Rattle.fields.specs.Code.{done_by}
use Rattle.judge.specs.Tally.{does}
use Rattle.matching.proofs.steps.does_step.Goals.{Start}
use Rattle.matching.proofs.steps.does_step.Goals as goal

pub returns : goal.returns
unfolding does
returns c =
    let start = (goal.at.returns c).Start in
    let done = c.privilege.ensures ∙ ap (λ (q : Request). done_by q) (part-whole start.args.q.now 28 start.told-q) in
    ap (λ (t : Bool). eqb (byte_at start.args.b.now start.args.flag) 1 && t)
    (c.eq.ensures ∙ ap₂ {C = Bool} same_privilege done c.read.ensures)
