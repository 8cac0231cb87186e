use Rattle.forms.specs.Code.{kind_of}
use Rattle.forms.specs.Form.{bytes}
use Rattle.reader.specs.Words.{word}
use Rattle.reader.proofs.Counts.{end_fits}
use Rattle.reader.proofs.Letters.{word-starts}
use Rattle.reader.proofs.Pieces.{word-hope, word-apart, scans-many}
use Rattle.reader.proofs.scan.word_after.Goals as goal

pub word_at-requires : goal.word_at-requires
word_at-requires c = let a = c.args in
    (rw c.run_end.ensures (end_fits (kind_of a.kind) a.text.now a.at c.requires.0), c.requires.1.0)

pub returns : goal.returns
returns c = let a = c.args in
    let w = word a.w in
    scans-many (kind_of a.kind) (bytes w) (λ k. word-apart (kind_of a.kind) w k (word-starts a.w c.requires.1.0) c.requires.1.1)
    (word-hope w) c.requires.0 (rw c.run_end.ensures at c.word_at.ensures)
