use mathlib.Core.Path.{◌≡◌, sym, ◌∙◌}
use mathlib.Core.Bool.{true}
use Rattle.std.proofs.Common.{rules, get_or, ◌+◌}
use Rattle.words.specs.Bytes.{u32_at}
use Rattle.format.specs.Policy.{policy_of}
use Rattle.rule_tests.specs.Shapes.{no_shape, shape_fits, marks_within}
use Rattle.rule_tests.specs.Bounds.{no_bound, bound_fits}
use Rattle.table_check.proofs.Marked.{marks-outside, by-shapes, by-bounds}
use Rattle.table_check.proofs.record.good_marks.Goals.{Else-not-marks_within}
use Rattle.table_check.proofs.record.good_marks.Goals as goal

within : (c : Else-not-marks_within) → let a = c.args in marks_within a.tests.now.policy.rules (u32_at a.s.now (a.at + 28)) ≡ true
within c = sym (rw c.marks-set.ensures at c.marks_within.ensures) ∙ c.if-not-marks_within.false

pub returns-then-not-marks_within : goal.returns-then-not-marks_within
unfolding policy_of
returns-then-not-marks_within c =
    let a = c.args in
    let policy = a.tests.now.policy in
    λ request.
    sym (marks-outside (policy_of policy.image.now) policy.rules policy.rules_are a.s.now a.at (sym (rw c.marks-set.ensures at c.marks_within.ensures) ∙ c.if-not-marks_within.true))

pub returns-in-Shapes : goal.returns-in-Shapes
returns-in-Shapes c =
    let a = c.args in
    let t = a.tests.now in
    let shapes = c.in-Shapes.shapes in
    λ request.
    c.marks_pass.ensures (λ i. shape_fits (get_or shapes.now i no_shape) c.read-levels.result) (λ i b h k. search rules)
    ∙ rw (c.read-levels.ensures, c.marks-set.ensures)
    (by-shapes t.policy.image.now t.policy.accepted t.policy.rules t.policy.rules_are a.s.now a.at (λ j. (c.type_inv.s j).fits) request (within (goal.at.returns-in-Shapes c).Else-not-marks_within) shapes (rw c.in-Shapes.is at t.made))

pub returns-in-Bounds : goal.returns-in-Bounds
returns-in-Bounds c =
    let a = c.args in
    let t = a.tests.now in
    let bounds = c.in-Bounds.bounds in
    λ request.
    c.marks_pass-in-Bounds.ensures (λ i. bound_fits (get_or bounds.now i no_bound) c.read-levels.result) (λ i b h k. search rules)
    ∙ rw (c.read-levels.ensures, c.marks-set.ensures)
    (by-bounds t.policy.image.now t.policy.accepted t.policy.rules t.policy.rules_are a.s.now a.at (λ j. (c.type_inv.s j).fits) request (within (goal.at.returns-in-Bounds c).Else-not-marks_within) bounds (rw c.in-Bounds.is at t.made))
