use native.Mathlib.Omega.{arith}
use mathlib.Core.Path.{sym, ◌∙◌}
use borrow.Author.Tests.{eqb-true, eqb-false}
use lib.ListN.{length}
use Rattle.tags.specs.Code.{value_at}
use Rattle.text_read.proofs.LevelTurns.{taken_start, taken_more, taken-end, taken_none, counted-fault, counted-depth}
use Rattle.text_read.proofs.source.Source.read_levels.Goals as goal

pub returns-then-blank : goal.returns-then-blank
returns-then-blank c =
    let t = c.args.self.now in
    let v = value_at t.text.now c.args.context in
    let n = taken_none t.names.list.now v c.args.d.now (eqb-true (length v) 0 (sym c.blank.ensures ∙ c.if-blank.true)) in
    record { fault = n.0; depth = n.1; levels = n.2 }

pub loop-at-init : goal.loop-at-init
loop-at-init c =
    let t = c.args.self.now in
    let v = value_at t.text.now c.args.context in (
      omega arith,
      taken_start t.names.list.now t.text.now c.args.context c.args.d.now c.requires.0 (eqb-false (length v) 0 (sym c.blank.ensures ∙ c.if-blank.false)),
    )

pub loop-at-preserved : goal.loop-at-preserved
loop-at-preserved c =
    let t = c.args.self.now in
    let told = c.read_level-level.ensures in (
      omega arith,
      rw c.and-named.ensures
          (taken_more t.names.list.now t.text.now c.args.context c.args.d.now c.loop-at.invariant.1 c.loop-at-test.true c.requires.1 c.until-end.ensures.0
          c.until-end.ensures.2 c.read_level-level.result told.fault told.level),
    )

pub returns : goal.returns
returns c =
    let t = c.args.self.now in
    let l = c.loop-at in
    let e = taken-end t.names.list.now t.text.now c.args.context c.args.d.now l.invariant.1 c.loop-at-test.false in
    record {
      fault = counted-fault l.named l.depth c.and.ensures ∙ e.0;
      depth = counted-depth l.named l.depth c.and.ensures e.1;
      levels = e.2;
    }
