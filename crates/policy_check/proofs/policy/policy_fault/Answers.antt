use mathlib.Core.Path.{◌≡◌, sym, ◌∙◌}
use mathlib.Core.Bool.{true}
use native.Mathlib.Omega.{arith}
use Rattle.word_laws.proofs.First.{test-passes, test-fails}
use Rattle.format.specs.Block.{good_length}
use Rattle.format.specs.Policy.{policy_fault}
use Rattle.policy_check.proofs.BlockFields.{few-blocks}
use Rattle.policy_check.proofs.policy.policy_fault.Goals.{Else-not-good_length}
use Rattle.policy_check.proofs.policy.policy_fault.Goals as goal

good : (c : Else-not-good_length) → good_length 64 c.args.s.now ≡ true
good c = sym c.good_length.ensures ∙ c.if-not-good_length.false

pub returns-then-not-good_length : goal.returns-then-not-good_length
unfolding policy_fault
returns-then-not-good_length c = sym (test-fails _ _ (sym c.good_length.ensures ∙ c.if-not-good_length.true))

pub blocks_fault-requires : goal.blocks_fault-requires
blocks_fault-requires c = omega (arith, few-blocks 64 _ (good c))

pub returns : goal.returns
unfolding policy_fault
returns c = c.blocks_fault.ensures ∙ sym (test-passes _ _ (good (goal.at.returns c).Else-not-good_length))
