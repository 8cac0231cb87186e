use native.Mathlib.Omega.{arith}
use mathlib.Core.Path.{sym, ◌∙◌}
use Rattle.word_laws.proofs.Parts.{u32_at-part}
use Rattle.fields.proofs.request.roles.Goals as goal

pub returns : goal.returns
returns c = let a = c.args in c.u32_at.ensures ∙ sym (u32_at-part a.s.now a.at 28 4 (omega arith))
