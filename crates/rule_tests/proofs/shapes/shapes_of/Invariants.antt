use Rattle.std.proofs.Common.{◌≡◌, length}
use Rattle.format.specs.Policy.{policy_of}
use Rattle.rule_tests.specs.Shapes.{Shapes}
use Rattle.rule_tests.proofs.shapes.shapes_of.Given as goal

abbrev pub invariant-loop-i : goal.invariant-loop-i
invariant-loop-i l = (length l.out ≡ 32) × Shapes (policy_of l.policy.image.now) l.i l.out
