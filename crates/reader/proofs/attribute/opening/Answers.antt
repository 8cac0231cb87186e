use native.Mathlib.Omega.{arith}
use mathlib.Core.Path.{refl}
use Rattle.xml.specs.Grammar.{◌▸◌, text, gap}
use Rattle.reader.specs.Words.{named}
use Rattle.reader.proofs.Computed.{computed}
use Rattle.reader.proofs.Scans.{given_on}
use Rattle.reader.proofs.Pieces.{scans-then, scans-stops, scans-fit}
use Rattle.reader.proofs.attribute.opening.Goals as goal

pub returns-in_err-name : goal.returns-in_err-name
unfolding computed
returns-in_err-name c = rw (given_on c.from_residual.ensures.1) (scans-stops (text (named c.args.w)) (gap ▸ text "=" ▸ gap ▸ text "\"") refl c.in_err-name.ensures)

pub word_after-requires : goal.word_after-requires
unfolding computed
word_after-requires c = (scans-fit (text (named c.args.w)) c.in_ok-name.ensures, (omega arith, refl))

pub returns-in_err-sign : goal.returns-in_err-sign
unfolding computed
returns-in_err-sign c = rw (given_on c.from_residual-in_err-sign.ensures.1)
    (scans-then (text (named c.args.w)) (gap ▸ text "=" ▸ gap ▸ text "\"") refl c.in_ok-name.ensures
    (scans-stops (gap ▸ text "=") (gap ▸ text "\"") refl c.in_err-sign.ensures))

pub word_after-requires-2 : goal.word_after-requires-2
unfolding computed
word_after-requires-2 c = (scans-fit (gap ▸ text "=") c.in_ok-sign.ensures, (omega arith, refl))

pub returns : goal.returns
unfolding computed
returns c = scans-then (text (named c.args.w)) (gap ▸ text "=" ▸ gap ▸ text "\"") refl c.in_ok-name.ensures
    (scans-then (gap ▸ text "=") (gap ▸ text "\"") refl c.in_ok-sign.ensures c.word_after-2.ensures)
