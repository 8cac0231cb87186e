use mathlib.Core.Path.{sym, ◌∙◌}
use Rattle.std.proofs.Common.{rules}
use Rattle.names.proofs.SameParts.{other_last}
use Rattle.names.proofs.bytes.same_bytes.Goals as goal

pub returns-else-eq : goal.returns-else-eq
returns-else-eq c = c.if-eq.false ∙ sym (other_last c.args.a.now c.args.b.now (λ e. search rules))
