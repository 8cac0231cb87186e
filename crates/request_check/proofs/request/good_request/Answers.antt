use mathlib.Core.Path.{◌≡◌, sym, ap, ◌∙◌}
use mathlib.Core.Bool.{true, false, not}
use borrow.Author.Tests.{eq-eqb, ne_eqb, not-true, not-false}
use Rattle.words.specs.Bytes.{part}
use Rattle.format.specs.Layout.{request_bytes}
use Rattle.format.specs.Request.{Request, user, roles, context_of, good_context, good_request}
use Rattle.format.specs.Rule.{full_privilege}
use Rattle.fields.specs.Code.{done_by}
use Rattle.request_check.proofs.RequestWords.{request-parts, context-at}
use Rattle.request_check.proofs.request.good_request.Goals.{After-full_privilege, Else-not-full_privilege, Else-roles-eq0, Else-user-eq0, Start}
use Rattle.request_check.proofs.request.good_request.Goals as goal

-- a test that fails ends it
module _ (q : Request) where
  no-user : user q ≡ 0 → false ≡ good_request q
  no-user e = sym (request-parts q ∙ rw (eq-eqb (user q) 0 e))

  no-roles : (user q ≡ 0 → ⊥) → roles q ≡ 0 → false ≡ good_request q
  no-roles u e = sym (request-parts q ∙ rw (ne_eqb (user q) 0 u, eq-eqb (roles q) 0 e))

  no-privilege : (user q ≡ 0 → ⊥) → (roles q ≡ 0 → ⊥) → full_privilege (done_by q) ≡ false → false ≡ good_request q
  no-privilege u r e = sym (request-parts q ∙ rw (ne_eqb (user q) 0 u, ne_eqb (roles q) 0 r, e))

  the_rest : (user q ≡ 0 → ⊥) → (roles q ≡ 0 → ⊥) → full_privilege (done_by q) ≡ true → good_context (context_of q) ≡ good_request q
  the_rest u r e = sym (request-parts q ∙ rw (ne_eqb (user q) 0 u, ne_eqb (roles q) 0 r, e))

abbrev asked : Start → Request
asked c = part c.args.s.now c.args.at request_bytes

pub returns-then-user-eq0 : goal.returns-then-user-eq0
returns-then-user-eq0 c = no-user (asked (goal.at.returns-then-user-eq0 c).Start) (sym c.user.ensures ∙ c.if-user-eq0.true)

some-user : (c : Else-user-eq0) → user (asked (goal.at.Else-user-eq0 c).Start) ≡ 0 → ⊥
some-user c e = c.if-user-eq0.false (c.user.ensures ∙ e)

pub returns-then-roles-eq0 : goal.returns-then-roles-eq0
returns-then-roles-eq0 c =
    let one = (goal.at.returns-then-roles-eq0 c).Else-user-eq0 in
    no-roles (asked (goal.at.returns-then-roles-eq0 c).Start) (some-user one) (sym c.roles.ensures ∙ c.if-roles-eq0.true)

some-roles : (c : Else-roles-eq0) → roles (asked (goal.at.Else-roles-eq0 c).Start) ≡ 0 → ⊥
some-roles c e = c.if-roles-eq0.false (c.roles.ensures ∙ e)

full_is : (c : After-full_privilege) → full_privilege (done_by (asked (goal.at.After-full_privilege c).Start)) ≡ c.full_privilege.result
full_is c = sym c.full_privilege.ensures

pub returns-then-not-full_privilege : goal.returns-then-not-full_privilege
returns-then-not-full_privilege c =
    let two = (goal.at.returns-then-not-full_privilege c).Else-roles-eq0 in
    no-privilege (asked (goal.at.returns-then-not-full_privilege c).Start) (some-user (goal.at.returns-then-not-full_privilege c).Else-user-eq0) (some-roles two)
    (full_is (goal.at.returns-then-not-full_privilege c).After-full_privilege ∙ not-true c.full_privilege.result (ap not c.if-not-full_privilege.true))

pub returns : goal.returns
returns c =
    let three = (goal.at.returns c).Else-not-full_privilege in
    let two = (goal.at.returns c).Else-roles-eq0 in
    let a = c.args in
    c.good_context.ensures
    ∙ sym (ap (λ (t : Request). good_context t) (context-at a.s.now a.at))
    ∙ the_rest (asked (goal.at.returns c).Start) (some-user (goal.at.returns c).Else-user-eq0) (some-roles two)
    (full_is (goal.at.returns c).After-full_privilege ∙ not-false c.full_privilege.result (ap not three.if-not-full_privilege.false))
