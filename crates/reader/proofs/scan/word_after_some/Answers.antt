use Rattle.forms.specs.Code.{kind_of}
use Rattle.forms.specs.Form.{one, many, bytes}
use Rattle.xml.specs.Grammar.{◌▸◌}
use Rattle.reader.specs.Words.{word}
use Rattle.reader.proofs.Counts.{some_fits}
use Rattle.reader.proofs.Letters.{word-starts}
use Rattle.reader.proofs.Scans.{given_on}
use Rattle.reader.proofs.Pieces.{word-hope, word-apart, scans-some, scans-none}
use Rattle.reader.proofs.scan.word_after_some.Goals as goal

pub returns-in_err-end : goal.returns-in_err-end
returns-in_err-end c = let q = kind_of c.args.kind in
    rw (given_on c.from_residual.ensures.1) (scans-none q (many (one q) ▸ bytes (word c.args.w)) c.in_err-end.ensures)

pub word_at-requires : goal.word_at-requires
word_at-requires c = (some_fits _ _ _ _ c.requires.0 c.in_ok-end.ensures, c.requires.1.0)

pub returns : goal.returns
returns c = let a = c.args in
    let w = word a.w in
    scans-some (kind_of a.kind) (bytes w) (λ k. word-apart (kind_of a.kind) w k (word-starts a.w c.requires.1.0) c.requires.1.1)
    (word-hope w) c.requires.0 c.in_ok-end.ensures c.word_at.ensures
