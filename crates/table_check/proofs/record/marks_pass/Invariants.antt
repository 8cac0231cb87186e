use Rattle.std.proofs.Common.{◌≡◌, ℕ, ◌<◌, Bool}
use Rattle.table_check.proofs.Left.{Left}
use Rattle.table_check.proofs.record.marks_pass.Given as goal

abbrev pub invariant-loop-rest : goal.invariant-loop-rest
invariant-loop-rest g l = (f : ℕ → Bool) → ((i : ℕ) (b : Bool) → i < 32 → goal.F-post g l.test i b → b ≡ f i) → Left f l.initial.rest l.rest

abbrev pub decreases-loop-rest : goal.decreases-loop-rest
decreases-loop-rest g l = l.rest
