use native.Mathlib.Omega.{arith}
use mathlib.Core.Path.{sym, ◌∙◌}
use Rattle.words.specs.Bytes.{part}
use Rattle.history.proofs.Turns.{pass-start, pass-apart, pass-other, pass-found, pass-end, of-user}
use Rattle.history.proofs.finding.find.Goals.{then-same_user, else-same_user}
use Rattle.history.proofs.finding.find.Goals as goal

pub loop-k-init : goal.loop-k-init
loop-k-init c = let a = c.args in (omega arith, pass-start a.each a.fitting.0 a.q.now a.table.now c.none-near.result a.found.now)

pub loop-k-preserved-then-is_empty : goal.loop-k-preserved-then-is_empty
loop-k-preserved-then-is_empty c =
    let a = c.args in (
      omega arith,
      pass-apart a.each a.fitting.0 a.q.now a.table.now c.record_start-at.ensures c.shared_at-shared.ensures
          c.loop-k.invariant.1 (sym c.is_empty.ensures ∙ c.if-is_empty.true),
    )

pub loop-k-preserved : goal.loop-k-preserved
loop-k-preserved c =
    let a = c.args in
    let l = c.loop-k in
    let here = c.record_start-at.ensures in
    let shared = c.shared_at-shared.ensures in
    let some = sym c.is_empty.ensures ∙ c.if-is_empty.false in
    let x = part a.table.now c.record_start-at.result 28 in
    let who = c.user-who.ensures in (
      omega arith,
      elim c.if-same_user.branch [
        | then-same_user d ↦
            rw (d.count-is, d.found-is)
            (pass-found a.each a.fitting.0 a.q.now a.table.now here shared l.invariant.1 some c.or-open.ensures c.with-near.result c.with-near.ensures
            (of-user a.q.now x c.told-q who c.same_user.ensures d.if-same_user.true) (omega (arith, l.invariant.1.few, l.invariant.1.sized, c.requires.found_len)))
        | else-same_user d ↦
            rw (d.count-is, d.found-is)
            (pass-other a.each a.fitting.0 a.q.now a.table.now here shared l.invariant.1 some c.or-open.ensures c.with-near.result c.with-near.ensures
            (of-user a.q.now x c.told-q who c.same_user.ensures d.if-same_user.false))
      ],
    )

pub returns : goal.returns
returns c =
    let a = c.args in
    pass-end a.each a.fitting.0 a.q.now a.table.now (omega arith) c.loop-k.invariant.1
