use Prim.Native.Nat.{ℕ, ◌*◌}
use mathlib.Core.Path.{refl, ap, ◌∙◌}
use lib.ListN.{take}
use Rattle.words.specs.Lists.{tab}
use Rattle.sums.specs.Code.{sums_of}
use Rattle.format.specs.Table.{record_at, block_image}
use Rattle.table_write.proofs.Over.{part-back}
use Rattle.table_write.proofs.write.seal_block.Goals as goal

pub returns : goal.returns
returns c =
    let a = c.args in
    let s = a.table.now in
    let at : ℕ = 512 * a.k in
    let front = c.split_at_mut-rest.ensures.front in
    let back = c.split_at_mut-rest.ensures.back in
    rw (front, back)
    (part-back s _ _ at 512 512 refl
    (c.seal.ensures ∙ ap (λ b. block_image (sums_of a.stamp) a.total a.k (tab (record_at b) 0 a.count)) (c.in-Some.ensures.cases.same ∙ ap (take 512) back)))
