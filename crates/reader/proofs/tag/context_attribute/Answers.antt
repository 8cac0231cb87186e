use native.Mathlib.Omega.{arith}
use mathlib.Core.Path.{refl}
use Rattle.forms.specs.Form.{space}
use Rattle.xml.specs.Grammar.{◌▸◌, gap, attribute, context}
use Rattle.reader.specs.Parts.{opened}
use Rattle.reader.proofs.Computed.{computed}
use Rattle.reader.proofs.Counts.{some_fits}
use Rattle.reader.proofs.Scans.{given_on}
use Rattle.reader.proofs.Values.{opened-valued, stopped-valued, attribute-apart}
use Rattle.reader.proofs.Pieces.{scans-fit, scans-some, scans-none}
use Rattle.reader.proofs.tag.context_attribute.Goals as goal

pub returns-in_err-start : goal.returns-in_err-start
returns-in_err-start c = rw (given_on c.from_residual.ensures.1) (scans-none space (gap ▸ attribute "BusinessContext" context) c.in_err-start.ensures)

pub opening-requires : goal.opening-requires
opening-requires c = (some_fits _ _ _ _ c.requires c.in_ok-start.ensures, omega arith)

pub returns-in_err-value : goal.returns-in_err-value
unfolding computed
returns-in_err-value c = rw (given_on c.from_residual-in_err-value.ensures.1)
    (scans-some space (attribute "BusinessContext" context) (λ k. attribute-apart space 20 context k (omega arith) refl) refl c.requires c.in_ok-start.ensures
    (stopped-valued "BusinessContext" context refl c.in_err-value.ensures))

pub context-requires : goal.context-requires
unfolding computed
context-requires c = scans-fit (opened "BusinessContext") c.in_ok-value.ensures

pub returns : goal.returns
unfolding computed
returns c = scans-some space (attribute "BusinessContext" context) (λ k. attribute-apart space 20 context k (omega arith) refl) refl c.requires c.in_ok-start.ensures
    (opened-valued "BusinessContext" context refl c.in_ok-value.ensures c.context.ensures)
