use mathlib.Core.Path.{◌≡◌, sym, ◌∙◌}
use mathlib.Core.Bool.{true}
use Rattle.format.specs.Rule.{exclusion_at}
use Rattle.exclusion_check.specs.Parts.{good_size}
use Rattle.exclusion_check.proofs.BlankParts.{blank-members}
use Rattle.exclusion_check.proofs.Sized.{few-members, by_members, bad-size}
use Rattle.drafts.proofs.limits.exclusion_within.Goals.{Then-good_size}
use Rattle.drafts.proofs.limits.exclusion_within.Goals as goal

sized : (c : Then-good_size) → good_size (exclusion_at c.args.x.now 0) ≡ true
sized c = sym c.good_size.ensures ∙ c.if-good_size.true

pub returns-then-good_size : goal.returns-then-good_size
returns-then-good_size c =
    let a = c.args in
    let x = exclusion_at a.x.now 0 in
    let z = sized (goal.at.returns-then-good_size c).Then-good_size in
    cc (by_members x z, blank-members a.x.now 0 x.n (few-members x z))

pub returns-else-good_size : goal.returns-else-good_size
returns-else-good_size c =
    let a = c.args in sym (bad-size (exclusion_at a.x.now 0) (sym c.good_size.ensures ∙ c.if-good_size.false))
