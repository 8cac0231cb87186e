use mathlib.Core.Path.{ap, ◌∙◌}
use lib.Dec.{eqb}
use lib.ListN.{drop}
use Rattle.std.specs.Prelude.{ℕ, zip}
use Rattle.std.proofs.Common.{rules, tests}
use Rattle.std.proofs.lemmas.Iterator.{YieldsList-from_slice, YieldsList-from_zip}
use Rattle.std.proofs.lemmas.Iterator.Consumers.{count_from_yields_List}
use Rattle.std.proofs.lemmas.Iterator.Search.{YieldsList-from_take_while}
use Rattle.std.proofs.lemmas.List.Folds.{length-prefix_len}
use Rattle.reader.specs.Words.{word}
use Rattle.reader.proofs.Counts.{common-prefix, behind_all}
use Rattle.reader.proofs.word.matched.Goals as goal

pub returns : goal.returns
returns c =
    let same = λ (p : ℕ × ℕ). eqb p.0 p.1 in
    let u = drop c.args.at c.args.text.now in
    count_from_yields_List c.take_while.result _ c.count.ensures.ran
    (YieldsList-from_take_while _ same
    (YieldsList-from_zip
    (YieldsList-from_slice _ (ap (λ s. s.a.rest.now) c.take_while.ensures.source ∙ ap (λ s. s.rest.now) c.zip.ensures.first ∙ c.iter.ensures.rest ∙ behind_all c.args.text.now c.args.at))
    (YieldsList-from_slice _ (ap (λ s. s.b.rest.now) c.take_while.ensures.source ∙ c.zip.ensures.second.0 ∙ c.word.ensures)))
    c.take_while.ensures.closure c.take_while.ensures.done (λ x b r k. search (rules, tests)))
    ∙ length-prefix_len same (zip u (word c.args.w)) ∙ common-prefix (word c.args.w) u
