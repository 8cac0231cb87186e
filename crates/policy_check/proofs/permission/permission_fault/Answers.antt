use mathlib.Core.Path.{◌≡◌, sym, ◌∙◌}
use mathlib.Core.Bool.{true}
use native.Mathlib.Omega.{arith}
use Rattle.word_laws.proofs.First.{test-passes, test-fails}
use Rattle.format.specs.Policy.{permission_fault, good_permission_bytes}
use Rattle.policy_check.proofs.Sized.{few-entries}
use Rattle.policy_check.proofs.permission.permission_fault.Goals.{Else-not-good_permission_bytes}
use Rattle.policy_check.proofs.permission.permission_fault.Goals as goal

good : (c : Else-not-good_permission_bytes) → good_permission_bytes c.args.b.now ≡ true
good c = sym c.good_permission_bytes.ensures ∙ c.if-not-good_permission_bytes.false

pub returns-then-not-good_permission_bytes : goal.returns-then-not-good_permission_bytes
unfolding permission_fault
returns-then-not-good_permission_bytes c = sym (test-fails _ _ (sym c.good_permission_bytes.ensures ∙ c.if-not-good_permission_bytes.true))

pub entries_fault-requires : goal.entries_fault-requires
entries_fault-requires c = omega (arith, few-entries _ (good c))

pub returns : goal.returns
unfolding permission_fault
returns c = c.entries_fault.ensures ∙ sym (test-passes _ _ (good (goal.at.returns c).Else-not-good_permission_bytes))
