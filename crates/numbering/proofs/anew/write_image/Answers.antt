use Prim.Native.Nat.{ℕ, ◌-◌, ◌*◌}
use native.Mathlib.Omega.{arith}
use mathlib.Core.Path.{refl, sym, ap}
use Rattle.format.specs.Block.{blocks}
use Rattle.numbering.proofs.Image.{length_both, length-image, image-written}
use Rattle.numbering.proofs.anew.write_image.Goals as goal

pub returns : goal.returns
returns c =
    let a = c.args in
    let kept = a.kept.now in
    let second = a.second.now in
    let others : ℕ = blocks second - a.first in (
      image-written kept a.rules second a.first others (omega arith) refl (omega arith) (omega arith) a.output.now (omega arith)
          c.put_blocks.ensures c.put_blocks-2.ensures,
      sym (length-image kept a.rules second a.first others (omega arith) refl (omega arith) (omega arith)),
      ap (λ m. 512 * m) (sym (length_both kept a.rules second a.first others (omega arith) refl)),
    )
