use Prim.Native.Nat.{◌+◌, ◌*◌}
use mathlib.Core.Path.{◌≡◌, refl, ◌∙◌}
use mathlib.Core.List.{[]}
use native.Mathlib.Omega.{arith}
use lib.ListN.{drop, length-drop}
use lib.Seq.{length-take-le, paste-zero}
use Rattle.words.specs.Bytes.{part}
use Rattle.table_write.proofs.SliceBytes.{slice-bytes}
use Rattle.table_write.proofs.Copied.{copied, word-ahead}
use Rattle.table_write.proofs.places.move_words.Goals as goal

pub loop-i-init : goal.loop-i-init
loop-i-init c = let a = c.args in (omega arith, refl, paste-zero a.s.now a.to [])

pub loop-i-preserved : goal.loop-i-preserved
loop-i-preserved c =
    let l = c.loop-i in
    let known = c.slice_known-1.given in
    let a = c.args in
    let s = a.s.now in
    let there = length-take-le (4 * l.i) (drop a.from s) (rw length-drop (omega arith)) in (
      omega arith,
      c.put_u32.auto.s ∙ l.invariant.1,
      copied s (slice-bytes s known) a.from l.i (omega arith) s a.to c.u32_at-word.result (omega arith) l.invariant.2
          (c.u32_at-word.ensures
          ∙ word-ahead s a.to (4 * l.i) (a.from + 4 * l.i) (part s a.from (4 * l.i)) there (omega arith) l.invariant.2 (omega arith))
          c.put_u32.ensures,
    )

pub shape_of-s : goal.shape_of-s
shape_of-s c = c.loop-i.invariant.1

pub returns : goal.returns
returns c = let e : c.loop-i.i ≡ c.args.n = omega arith in rw (← e) c.loop-i.invariant.2
