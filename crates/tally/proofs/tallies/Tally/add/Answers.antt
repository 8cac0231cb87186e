use Rattle.tally.proofs.Taken.{is_next, counting_more, roles-taken, done-taken}
use native.Mathlib.Omega.{arith}
use mathlib.Core.Path.{◌≡◌, refl, ap, ◌∙◌}
use lib.Bits.{bit_or}
use Rattle.tally.specs.declared.deed.Deed.{Deed}
use Rattle.tally.proofs.tallies.Tally.add.Goals as goal

pub returns-then-self-eq-OF_ROLES : goal.returns-then-self-eq-OF_ROLES
returns-then-self-eq-OF_ROLES c x qs q of few e small =
    let a = c.args in
    roles-taken x qs q a.self _ of refl c.if-self-eq-OF_ROLES.true refl
    (c.or-self.ensures ∙ ap (λ (d : Deed). bit_or a.self.roles.0 d.roles.0) e)

pub loop-member-preserved : goal.loop-member-preserved
loop-member-preserved c =
    let l = c.loop-member in
    let e = c.after.ensures in
    counting_more c.args.self.members l.member-items c.args.deed.privilege.0 l.member-index _ l.invariant (omega (arith, l.invariant.same_length)) (is_next _ _ c.after.result e.0 e.1)

pub returns : goal.returns
returns c x qs q of few e small =
    let a = c.args in
    let l = c.loop-member in
    done-taken x qs q a.self _ of refl a.deed.privilege.0 c.if-self-eq-OF_ROLES.false few small (ap (λ (d : Deed). d.privilege.0) e)
    (let h : l.member-index ≡ 8 = omega arith in rw h at l.invariant)
