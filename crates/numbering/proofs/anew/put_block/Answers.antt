use Prim.Native.Nat.{ℕ, ◌*◌}
use native.Mathlib.Omega.{arith}
use mathlib.Core.Path.{refl, ap, ◌∙◌}
use lib.ListN.{take}
use lib.Seq.{take_all}
use Rattle.word_laws.proofs.Parts.{part_length}
use Rattle.format.specs.Block.{block}
use Rattle.xml.specs.Blocks.{numbered_anew}
use Rattle.table_write.specs.Writing.{over}
use Rattle.numbering.proofs.Lent.{remade}
use Rattle.numbering.proofs.anew.put_block.Goals as goal

pub returns : goal.returns
returns c =
    let a = c.args in
    let at : ℕ = 512 * a.j in
    rw (c.split_at_mut-rest.ensures.front, c.split_at_mut-rest.ensures.back)
    (remade a.output.now at 512 (block a.from.now a.i) (part_length a.from.now (512 * a.i) 512 (omega arith)) (omega arith)
    (numbered_anew a.total a.j) 512 refl
    (c.copy_words.ensures ∙ ap (over a.output.now at 512) (take_all 512 c.block.result.now (omega arith) ∙ c.block.ensures))
    (c.number_block.ensures ∙ ap (numbered_anew a.total a.j) (c.in-Some.ensures.cases.same ∙ ap (take 512) c.split_at_mut-rest.ensures.back)))
