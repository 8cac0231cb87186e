use Prim.Native.Nat.{ℕ, ◌-◌}
use mathlib.Core.Path.{ap, ap₂, ◌∙◌}
use mathlib.Core.Bool.{Bool, ◌&&◌}
use Rattle.words.specs.Bytes.{bit}
use Rattle.word_laws.proofs.Parts.{part-whole}
use Rattle.format.specs.Request.{Request, roles as roles_of}
use Rattle.format.specs.Rule.{same_privilege}
use Rattle.fields.specs.Code.{done_by}
use Rattle.verdict.proofs.Permissions.{grants-by}
use Rattle.verdict.proofs.permits.grants.Goals as goal

pub returns : goal.returns
returns c =
    let a = c.args in
    let u16-at = c.u16_at in
    let whole = part-whole a.q.now 28 c.told-q in
    ap₂ {C = Bool} (λ x y. x && y)
    (c.has.ensures ∙ ap₂ {C = Bool} (λ (k x : ℕ). bit (k - 1) x) u16-at.ensures.0 (c.roles.ensures ∙ ap roles_of whole))
    (c.eq.ensures ∙ ap₂ {C = Bool} same_privilege c.read-privilege.ensures (c.privilege.ensures ∙ ap (λ (q : Request). done_by q) whole))
    ∙ grants-by a.b.now a.q.now a.i
