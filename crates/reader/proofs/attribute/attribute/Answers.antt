use native.Mathlib.Omega.{arith}
use mathlib.Core.Path.{refl}
use Rattle.forms.specs.Code.{kind_of}
use Rattle.reader.specs.Words.{named}
use Rattle.reader.specs.Parts.{opened, some}
use Rattle.reader.proofs.Computed.{computed}
use Rattle.reader.proofs.Scans.{given_on}
use Rattle.reader.proofs.Values.{quote-apart, opened-valued, stopped-valued}
use Rattle.reader.proofs.Pieces.{scans-fit}
use Rattle.reader.proofs.attribute.attribute.Goals as goal

pub returns-in_err-value : goal.returns-in_err-value
unfolding computed
returns-in_err-value c = let a = c.args in
    rw (given_on c.from_residual.ensures.1) (stopped-valued (named a.w) (some (kind_of a.kind)) refl c.in_err-value.ensures)

pub word_after_some-requires : goal.word_after_some-requires
unfolding computed
word_after_some-requires c = let a = c.args in
    (scans-fit (opened (named a.w)) c.in_ok-value.ensures, (omega arith, quote-apart a.kind))

pub returns : goal.returns
unfolding computed
returns c = let a = c.args in
    opened-valued (named a.w) (some (kind_of a.kind)) refl c.in_ok-value.ensures c.word_after_some.ensures
