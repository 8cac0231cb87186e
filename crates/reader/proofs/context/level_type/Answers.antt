use native.Mathlib.Omega.{arith}
use mathlib.Core.Path.{refl}
use Rattle.forms.specs.Form.{of_name, one, many}
use Rattle.xml.specs.Grammar.{◌▸◌, text, gap}
use Rattle.reader.proofs.Computed.{computed}
use Rattle.reader.proofs.Counts.{some_fits}
use Rattle.reader.proofs.Levels.{sign-apart}
use Rattle.reader.proofs.Scans.{given_on}
use Rattle.reader.proofs.Pieces.{scans-some, scans-none}
use Rattle.reader.proofs.context.level_type.Goals as goal

pub returns-in_err-end : goal.returns-in_err-end
unfolding computed
returns-in_err-end c = rw (given_on c.from_residual.ensures.1) (scans-none of_name (many (one of_name) ▸ gap ▸ text "=") c.in_err-end.ensures)

pub word_after-requires : goal.word_after-requires
unfolding computed
word_after-requires c = (some_fits _ _ _ _ c.requires c.in_ok-end.ensures, (omega arith, refl))

pub returns : goal.returns
unfolding computed
returns c = scans-some of_name (gap ▸ text "=") sign-apart refl c.requires c.in_ok-end.ensures c.word_after.ensures
