use native.Mathlib.Omega.{arith}
use mathlib.Core.Path.{◌≡◌, refl}
use Rattle.words.specs.Lists.{same_list}
use Rattle.table_write.proofs.SliceBytes.{slice-bytes}
use Rattle.table_write.proofs.Compared.{same_more}
use Rattle.table_write.proofs.places.same_words.Goals as goal

pub loop-i-init : goal.loop-i-init
unfolding same_list
loop-i-init c = (omega arith, refl)

pub loop-i-preserved : goal.loop-i-preserved
loop-i-preserved c =
    let l = c.loop-i in
    let a = c.args in (
      omega arith,
      same_more a.s.now a.other.now (slice-bytes _ c.shared_slice_known-1.given) (slice-bytes _ c.shared_slice_known-2-1.given)
          a.at a.from l.i (omega arith) (omega arith) l.invariant.1 c.u32_at.ensures c.u32_at-in-loop-i.ensures,
    )

pub returns : goal.returns
returns c =
    let l = c.loop-i in
    let e : l.i ≡ c.args.n = omega arith in
    rw (← e) l.invariant.1
