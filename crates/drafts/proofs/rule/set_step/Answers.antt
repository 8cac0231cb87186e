use mathlib.Core.Path.{◌∙◌}
use Rattle.fields.specs.Code.{privilege_of}
use Rattle.xml.specs.Blocks.{privilege_image}
use Rattle.drafts.proofs.DraftBlock.{first-set, last_set}
use Rattle.drafts.proofs.rule.set_step.Goals.{in-First, in-Last}
use Rattle.drafts.proofs.rule.set_step.Goals as goal

pub returns : goal.returns
unfolding privilege_image
returns c =
    let p = privilege_of c.args.p in
    elim c.match-step.branch [
      | in-First w ↦ λ ls d e. c.put_pair.ensures ∙ rw (e, w.flag-is, w.in-First.is) (first-set ls d p)
      | in-Last w ↦ λ ls d e. c.put_pair.ensures ∙ rw (e, w.flag-is, w.in-Last.is) (last_set ls d p)
    ]
