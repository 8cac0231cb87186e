use Rattle.xml.specs.Grammar.{name, attribute, spaced}
use Rattle.reader.specs.Words.{named}
use Rattle.reader.proofs.Scans.{given_on}
use Rattle.reader.proofs.Pairs.{spaced-hope}
use Rattle.reader.proofs.Pieces.{scans-then, scans-stops, scans-fit}
use Rattle.reader.proofs.attribute.in_turn.Goals as goal

pub returns-in_err-first : goal.returns-in_err-first
returns-in_err-first c = let a = c.args in
    rw (given_on c.from_residual.ensures.1)
    (scans-stops (attribute (named a.m) name) (spaced (attribute (named a.n) name)) (spaced-hope a.m a.n) c.in_err-first.ensures)

pub spaced-requires : goal.spaced-requires
spaced-requires c = (scans-fit (attribute (named c.args.m) name) c.in_ok-first.ensures, (c.requires.1.second, c.requires.1.second-shows))

pub returns : goal.returns
returns c = let a = c.args in
    scans-then (attribute (named a.m) name) (spaced (attribute (named a.n) name)) (spaced-hope a.m a.n) c.in_ok-first.ensures c.spaced.ensures
