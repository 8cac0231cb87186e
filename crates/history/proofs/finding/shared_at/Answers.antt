use Prim.Native.Nat.{ℕ}
use mathlib.Core.Path.{ap, ◌∙◌}
use lib.Bits.{bit_and}
use Rattle.words.specs.Bytes.{part}
use Rattle.format.specs.Layout.{request_bytes}
use Rattle.matching.specs.Masks.{together_by}
use Rattle.history.specs.Code.{shared_by}
use Rattle.history.proofs.finding.shared_at.Goals as goal

pub returns : goal.returns
unfolding shared_by
returns c =
    let a = c.args in
    c.together.ensures
    ∙ ap (λ (m : ℕ). together_by a.each m a.q.now (part a.table.now a.at request_bytes))
    (c.and.ensures ∙ ap (λ (m : ℕ). bit_and m a.rules.0) c.marks.ensures)
