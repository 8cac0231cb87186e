use Prim.Native.Nat.{◌+◌, ◌*◌}
use mathlib.Core.Path.{◌≡◌, refl, ap, ◌∙◌}
use mathlib.Core.List.{[]}
use native.Mathlib.Omega.{arith}
use lib.Seq.{paste-zero}
use Rattle.words.specs.Bytes.{u32_at}
use Rattle.table_write.proofs.SliceBytes.{slice-bytes}
use Rattle.table_write.proofs.Copied.{copied}
use Rattle.table_write.proofs.places.copy_words.Goals as goal

pub loop-i-init : goal.loop-i-init
loop-i-init c = let a = c.args in (omega arith, refl, paste-zero a.s.now a.at [])

pub loop-i-preserved : goal.loop-i-preserved
loop-i-preserved c =
    let l = c.loop-i in
    let known = c.shared_slice_known-1.given in
    let a = c.args in
    let src = a.from.now in
    let e : 4 * l.i ≡ 0 + 4 * l.i = omega arith in (
      omega arith,
      c.put_u32.auto.s ∙ l.invariant.1,
      copied src (slice-bytes src known) 0 l.i (omega arith) a.s.now a.at c.u32_at.result (omega arith) l.invariant.2
          (c.u32_at.ensures ∙ ap (u32_at src) e) c.put_u32.ensures,
    )

pub shape_of-s : goal.shape_of-s
shape_of-s c = c.loop-i.invariant.1

pub returns : goal.returns
returns c = let e : c.loop-i.i ≡ c.args.n = omega arith in rw (← e) c.loop-i.invariant.2
