use native.Mathlib.Omega.{arith}
use Prim.Native.Nat.{◌*◌}
use mathlib.Core.Path.{ap, ◌∙◌}
use lib.Seq.{take_all}
use Rattle.table_write.specs.Writing.{over}
use Rattle.drafts.proofs.kept.keep_rule.Goals as goal

pub returns-then-k : goal.returns-then-k
returns-then-k c =
    let a = c.args in
    (λ h. c.copy_words.ensures ∙ ap (over a.image.now (512 * a.k) 512) (take_all 512 a.d.now (omega arith)), λ h. absurd (omega arith))
