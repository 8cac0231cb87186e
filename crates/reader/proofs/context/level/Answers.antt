use Rattle.forms.specs.Form.{space, of_name}
use Rattle.xml.specs.Grammar.{◌▸◌, text, gap}
use Rattle.reader.specs.Parts.{some}
use Rattle.reader.proofs.Counts.{end_fits}
use Rattle.reader.proofs.Contexts.{level-valued, level-stopped}
use Rattle.reader.proofs.Scans.{given_on}
use Rattle.reader.proofs.Pieces.{scans-fit}
use Rattle.reader.proofs.context.level.Goals as goal

pub returns-in_err-sign : goal.returns-in_err-sign
returns-in_err-sign c = rw (given_on c.from_residual.ensures.1) (level-stopped c.in_err-sign.ensures)

pub run_end-requires : goal.run_end-requires
run_end-requires c = scans-fit (some of_name ▸ gap ▸ text "=") c.in_ok-sign.ensures

pub level_value-requires : goal.level_value-requires
level_value-requires c = rw c.run_end.ensures (end_fits space c.args.text.now c.in_ok-sign.sign (scans-fit (some of_name ▸ gap ▸ text "=") c.in_ok-sign.ensures))

pub returns : goal.returns
returns c = level-valued c.in_ok-sign.ensures (rw c.run_end.ensures at c.level_value.ensures)
