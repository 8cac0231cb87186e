use native.Mathlib.Omega.{arith}
use mathlib.Core.Path.{◌∙◌}
use mathlib.Core.Path.{◌≡◌}
use Rattle.std.proofs.Common.{rules}
use Rattle.std.specs.List.{fold}
use Rattle.xml.specs.Read.{decimal}
use Rattle.tags.specs.Cut.{span}
use Rattle.tags.proofs.Digits.{with_digit, digits-folded}
use Rattle.tags.proofs.number.cardinality.Goals as goal

pub returns : goal.returns
unfolding decimal
returns c =
    let a = c.args in
    let e : c.fold.result ≡ fold with_digit 0 (span a.text.now a.from a.to) = search rules in
    e ∙ digits-folded 0 (span a.text.now a.from a.to) (omega arith)
