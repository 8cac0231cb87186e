use Prim.Native.Nat.{ℕ}
use mathlib.Core.Path.{ap, ◌∙◌}
use lib.Dec.{eqb}
use Rattle.judge.specs.Tally.{same_user}
use Rattle.history.proofs.finding.same_user.Goals as goal

pub returns : goal.returns
unfolding same_user
returns c = c.eq.ensures ∙ ap (λ (u : ℕ). eqb u c.args.who.0) c.user.ensures
