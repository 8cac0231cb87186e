use Prim.Native.Nat.{ℕ}
use mathlib.Core.Path.{ap, ◌∙◌}
use Rattle.fields.specs.Code.{exclusion_code}
use Rattle.xml.specs.Read.{decimal, new_members}
use Rattle.tags.specs.Code.{value_at}
use Rattle.drafts.specs.Draft.{exclusion_block}
use Rattle.drafts.proofs.ExclusionBlock.{begun-capped}
use Rattle.text_read.proofs.StandsNow.{code-fits, none-fit, exclusion-now}
use Rattle.text_read.proofs.sheet.Sheet.take_exclusion_start.Goals as goal

pub returns : goal.returns
returns c =
    let a = c.args in
    let k = exclusion_code a.kind in
    let m = decimal (value_at a.text.now a.m) in
    λ t s h.
    exclusion-now h (new_members k m)
    (c.start_exclusion.ensures
    ∙ ap (λ (q : ℕ). exclusion_block (new_members q c.cardinality.result)) c.code.ensures
    ∙ ap (λ (n : ℕ). exclusion_block (new_members k n)) c.cardinality.ensures
    ∙ begun-capped k m)
    (none-fit k m (code-fits a.kind))
