use Rattle.std.proofs.Common.{ℕ, ◌+◌, ◌*◌, ap₂}
use Rattle.format.specs.Rule.{rule_at}
use Rattle.rule_tests.specs.Bounds.{level_first}
use Rattle.rule_tests.proofs.bounds.level_first.Goals as goal

pub returns : goal.returns
unfolding level_first rule_at
returns c = ap₂ (λ (v t : ℕ). v + 65536 * t) c.u16_at.ensures.0 c.u16_at-2.ensures.0
