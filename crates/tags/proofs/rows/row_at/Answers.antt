use Prim.Native.Nat.{ℕ}
use native.Mathlib.Omega.{arith}
use mathlib.Core.Path.{sym, ap, ◌∙◌}
use mathlib.Core.List.{List}
use lib.ListN.{replicate}
use Rattle.xml.specs.Tags.{squeezed}
use Rattle.tags.specs.Cut.{span}
use Rattle.tags.specs.Rows.{row_of}
use Rattle.tags.proofs.Squeezing.{laid-front}
use Rattle.tags.proofs.RowLaws.{too_long}
use Rattle.tags.proofs.rows.row_at.Goals as goal

pub returns-then-n-gt-WIDTH : goal.returns-then-n-gt-WIDTH
returns-then-n-gt-WIDTH c =
    let a = c.args in
    sym (too_long (squeezed (span a.text.now a.from a.to)) (omega (arith, c.squeeze-n.ensures.0)))

pub returns : goal.returns
returns c =
    let q = c.squeeze-n.ensures in
    c.row_of.ensures ∙ ap (λ (p : List ℕ). row_of p) (laid-front (replicate 28 0) q.0 q.1 c.if-n-gt-WIDTH.false)
