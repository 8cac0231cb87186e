use Prim.Native.Nat.{◌<◌}
use native.Mathlib.Omega.{arith}
use Prim.Native.Nat.{◌+◌, ◌*◌}
use mathlib.Core.Path.{ap, ◌∙◌}
use mathlib.Core.Option.{some}
use Rattle.word_laws.proofs.Parts.{part-to}
use Rattle.xml.specs.Names.{names, name_in}
use Rattle.names.proofs.GoodEntries.{entry_at}
use Rattle.names.proofs.good.Names.name_of.Goals as goal

pub slice_bounds-result-end : goal.slice_bounds-result-end
slice_bounds-result-end c =
    let h : c.in_ok-i.i < names c.args.self.now.list.now = c.in_ok-i.ensures.1 in
    let good = entry_at c.args.self.now.list.now c.args.self.now.good c.in_ok-i.i h in
    omega (arith, good.length_to)

pub returns : goal.returns
unfolding name_in
returns c =
    let i = c.in_ok-i.i in
    ap some (part-to c.args.self.now.list.now (64 * i + 4) c.from-n.result ∙ rw (c.from-n.ensures)) ∙ c.in_ok-i.ensures.0
