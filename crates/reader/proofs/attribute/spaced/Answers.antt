use mathlib.Core.Path.{refl}
use Rattle.forms.specs.Form.{space}
use Rattle.forms.specs.Code.{kind_of}
use Rattle.xml.specs.Grammar.{◌▸◌, gap, attribute}
use Rattle.reader.specs.Words.{named}
use Rattle.reader.specs.Parts.{some}
use Rattle.reader.proofs.Computed.{computed}
use Rattle.reader.proofs.Counts.{some_fits}
use Rattle.reader.proofs.Scans.{given_on}
use Rattle.reader.proofs.Values.{attribute-apart, attribute-hope}
use Rattle.reader.proofs.Pieces.{scans-some, scans-none}
use Rattle.reader.proofs.attribute.spaced.Goals as goal

pub returns-in_err-start : goal.returns-in_err-start
returns-in_err-start c = let a = c.args in
    rw (given_on c.from_residual.ensures.1) (scans-none space (gap ▸ attribute (named a.w) (some (kind_of a.kind))) c.in_err-start.ensures)

pub attribute-requires : goal.attribute-requires
attribute-requires c = (some_fits _ _ _ _ c.requires.0 c.in_ok-start.ensures, c.requires.1.0)

pub returns : goal.returns
unfolding computed
returns c = let a = c.args in
    let v = some (kind_of a.kind) in
    scans-some space (attribute (named a.w) v) (λ k. attribute-apart space a.w v k c.requires.1.0 c.requires.1.1) (attribute-hope (named a.w) v refl)
    c.requires.0 c.in_ok-start.ensures c.attribute.ensures
