use native.Mathlib.Omega.{arith}
use mathlib.Core.Path.{refl, sym, ◌∙◌}
use Rattle.forms.specs.Form.{space}
use Rattle.xml.specs.Grammar.{◌▸◌, text, gap}
use Rattle.reader.proofs.Computed.{computed}
use Rattle.reader.proofs.Counts.{end_fits}
use Rattle.reader.proofs.Scans.{given_on}
use Rattle.reader.proofs.Contexts.{context-none, context-start, context-level, context-closes, context-comma-stopped, context-again}
use Rattle.reader.proofs.Contexts.{leads-fit, leads-past}
use Rattle.reader.proofs.Pieces.{scans-fit, scans-past}
use Rattle.reader.proofs.context.context.Goals as goal

pub returns-then-starts : goal.returns-then-starts
returns-then-starts c = context-none (sym c.starts.ensures ∙ c.if-starts.true)

pub loop-end-init : goal.loop-end-init
loop-end-init c = (omega arith, (c.requires, context-start c.requires (sym c.starts.ensures ∙ c.if-starts.false)))

pub returns-then-starts-2 : goal.returns-then-starts-2
returns-then-starts-2 c = let l = c.loop-end in
    let past = leads-past c.in_ok-end.ensures in
    let up = l.invariant.0 in
    context-closes (context-level l.invariant.1.1 c.in_ok-end.ensures) (omega arith) (sym c.starts-in-loop-end.ensures ∙ c.if-starts-2.true)

pub word_after-requires : goal.word_after-requires
unfolding computed
word_after-requires c = (leads-fit c.in_ok-end.ensures, (omega arith, refl))

pub returns-in_err-comma : goal.returns-in_err-comma
unfolding computed
returns-in_err-comma c = rw (given_on c.from_residual-in_err-comma.ensures.1)
    (context-comma-stopped (context-level c.loop-end.invariant.1.1 c.in_ok-end.ensures) (leads-fit c.in_ok-end.ensures)
    (sym c.starts-in-loop-end.ensures ∙ c.if-starts-2.false) c.in_err-comma.ensures)

pub run_end-p-requires : goal.run_end-p-requires
unfolding computed
run_end-p-requires c = scans-fit (gap ▸ text ",") c.in_ok-comma.ensures

pub loop-end-smaller : goal.loop-end-smaller
unfolding computed
loop-end-smaller c = let l = leads-past c.in_ok-end.ensures in
    let m = scans-past (gap ▸ text ",") c.in_ok-comma.ensures in
    let n = scans-fit (gap ▸ text ",") c.in_ok-comma.ensures in
    let e = c.run_end-p.ensures in
    omega arith

pub loop-end-preserved : goal.loop-end-preserved
unfolding computed
loop-end-preserved c = let l = c.loop-end in
    let past = leads-past c.in_ok-end.ensures in
    let over = scans-past (gap ▸ text ",") c.in_ok-comma.ensures in
    let fit = end_fits space c.args.text.now c.in_ok-comma.comma (scans-fit (gap ▸ text ",") c.in_ok-comma.ensures) in
    let up = l.invariant.0 in
    let e = c.run_end-p.ensures in (
      omega arith,
      rw e (
        fit,
        context-again (context-level l.invariant.1.1 c.in_ok-end.ensures) (leads-fit c.in_ok-end.ensures) (sym c.starts-in-loop-end.ensures ∙ c.if-starts-2.false)
            c.in_ok-comma.ensures,
      ),
    )
