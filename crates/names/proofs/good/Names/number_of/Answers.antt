use native.Mathlib.Omega.{arith}
use mathlib.Core.Path.{sym, ap, ◌∙◌}
use mathlib.Core.Option.{some}
use Rattle.words.specs.Bytes.{part}
use Rattle.word_laws.proofs.Parts.{part-to, part_length}
use Rattle.xml.specs.Names.{name_in, number_of}
use Rattle.names.proofs.LookUps.{too_long}
use Rattle.names.proofs.good.Names.number_of.Goals as goal

pub returns-then-n-gt-MOST_NAME_BYTES : goal.returns-then-n-gt-MOST_NAME_BYTES
returns-then-n-gt-MOST_NAME_BYTES c =
    let a = c.args in
    let e = part_length a.text.now a.at a.n (omega arith) in
    sym (too_long a.self.now.list.now c.args.self.now.good a.kind (part a.text.now a.at a.n) (omega arith))

pub returns : goal.returns
unfolding name_in
returns c =
    let a = c.args in
    ap some c.u16_at.ensures.0 ∙ c.in_ok-i.ensures.0 ∙ ap (number_of a.self.now.list.now a.kind) (part-to a.text.now a.at a.n)
