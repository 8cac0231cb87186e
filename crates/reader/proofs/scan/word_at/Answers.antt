use native.Mathlib.Omega.{arith}
use mathlib.Core.Path.{sym, ap, ◌∙◌}
use lib.ListN.{length}
use Rattle.reader.specs.Words.{word}
use Rattle.reader.proofs.Counts.{common-end}
use Rattle.reader.proofs.Letters.{word-starts}
use Rattle.reader.proofs.Pieces.{scans-word, scans-part}
use Rattle.reader.proofs.scan.word_at.Goals as goal

pub overflow_add-result-else-n-word : goal.overflow_add-result-else-n-word
overflow_add-result-else-n-word c = let m = c.matched-n.ensures in
    let a = c.args in
    omega (arith, common-end (word a.w) a.text.now a.at c.requires.0)

pub returns-then-n-word : goal.returns-then-n-word
returns-then-n-word c = let w = word c.args.w in
    scans-word w c.matched-n.result c.requires.0 c.matched-n.ensures (word-starts c.args.w c.requires.1) (c.if-n-word.true ∙ ap length c.word.ensures)

pub returns-else-n-word : goal.returns-else-n-word
returns-else-n-word c = let w = word c.args.w in
    scans-part w c.matched-n.result c.requires.0 c.matched-n.ensures (λ e. c.if-n-word.false (e ∙ sym (ap length c.word.ensures)))
