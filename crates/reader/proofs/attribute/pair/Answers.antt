use mathlib.Core.Path.{sym, ◌∙◌}
use Rattle.forms.specs.Form.{space, ◌or◌}
use Rattle.xml.specs.Grammar.{◌▸◌, gap}
use Rattle.reader.specs.Words.{named}
use Rattle.reader.specs.Parts.{in_turn}
use Rattle.reader.proofs.Counts.{some_fits}
use Rattle.reader.proofs.Scans.{given_on}
use Rattle.reader.proofs.Pairs.{told-swapped, pair-first, pair-second}
use Rattle.reader.proofs.Pieces.{scans-none}
use Rattle.reader.proofs.attribute.pair.Goals as goal

pub returns-in_err-start : goal.returns-in_err-start
returns-in_err-start c = let a = c.args in
    rw (given_on c.from_residual.ensures.1)
    (scans-none space (gap ▸ (in_turn (named a.m) (named a.n) or in_turn (named a.n) (named a.m))) c.in_err-start.ensures)

pub in_turn-requires : goal.in_turn-requires
in_turn-requires c = (some_fits _ _ _ _ c.requires.0 c.in_ok-start.ensures, told-swapped _ _ c.requires.1)

pub returns-then-starts : goal.returns-then-starts
returns-then-starts c = let a = c.args in
    pair-second a.m a.n c.requires.1 c.requires.0 c.in_ok-start.ensures (sym c.starts.ensures ∙ c.if-starts.true) c.in_turn.ensures

pub in_turn-requires-else-starts : goal.in_turn-requires-else-starts
in_turn-requires-else-starts c = (some_fits _ _ _ _ c.requires.0 c.in_ok-start.ensures, c.requires.1)

pub returns-else-starts : goal.returns-else-starts
returns-else-starts c = let a = c.args in
    pair-first a.m a.n c.requires.1 c.requires.0 c.in_ok-start.ensures (sym c.starts.ensures ∙ c.if-starts.false) c.in_turn-else-starts.ensures
