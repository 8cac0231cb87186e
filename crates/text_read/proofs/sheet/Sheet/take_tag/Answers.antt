use mathlib.Core.Path.{refl}
use mathlib.Core.Logic.{inl, inr}
use Rattle.xml.specs.Read.{tag_fault, after_tag}
use Rattle.text_read.proofs.TurnsKinds.{in-kind, by_kind}
use Rattle.text_read.proofs.sheet.Sheet.take_tag.Goals as goal

pub returns-in-StartSet : goal.returns-in-StartSet
unfolding tag_fault after_tag
returns-in-StartSet c =
    let t = c.args.source.now.text.now in
    elim c.in-StartSet.is [
      | inl e ↦ λ second s p h. by_kind t e (record { fault = refl; now = h })
      | inr e ↦ λ second s p h. by_kind t e (record { fault = refl; now = h })
    ]

pub returns-in-EndSet : goal.returns-in-EndSet
returns-in-EndSet c = λ second s p h. by_kind c.args.source.now.text.now c.in-EndSet.is (c.take_set_end.ensures second s p h)

pub returns-in-StartRule : goal.returns-in-StartRule
unfolding tag_fault after_tag
returns-in-StartRule c =
    let t = c.args.source.now.text.now in
    λ second s p h.
    by_kind t c.in-StartRule.is (record { fault = refl; now = c.take_rule_start.ensures t s (in-kind t c.in-StartRule.is c.requires.0) h })

pub returns-in-EndRule : goal.returns-in-EndRule
returns-in-EndRule c = λ second s p h. by_kind c.args.source.now.text.now c.in-EndRule.is (c.take_rule_end.ensures second s h)

pub returns-in-Privilege : goal.returns-in-Privilege
returns-in-Privilege c = λ second s p h. by_kind c.args.source.now.text.now c.in-Privilege.is (c.take_privilege.ensures second s h)

pub returns-in-StartExclusion : goal.returns-in-StartExclusion
unfolding tag_fault after_tag
returns-in-StartExclusion c =
    let t = c.args.source.now.text.now in
    λ second s p h. by_kind t c.in-StartExclusion.is (record { fault = refl; now = c.take_exclusion_start.ensures t s h })

pub returns-in-EndExclusion : goal.returns-in-EndExclusion
returns-in-EndExclusion c =
    let t = c.args.source.now in
    λ second s p h. by_kind t.text.now c.in-EndExclusion.is (c.take_exclusion_end.ensures t.text.now t.names.list.now second t.room s h)

pub returns-in-Role : goal.returns-in-Role
returns-in-Role c = λ second s p h. by_kind c.args.source.now.text.now c.in-Role.is (c.take_role.ensures second s h)
