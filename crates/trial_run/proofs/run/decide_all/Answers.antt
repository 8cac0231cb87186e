use Rattle.std.proofs.Common.{rules, arith, ◌≡◌, ◌-◌, take, ap, ◌∙◌}
use Rattle.judge.specs.Decide.{decide}
use Rattle.trial_run.proofs.Deciding.{none_yet, one_more, at_the_end, at_the_bound, table_as_it_was, table_one_more}
use Rattle.trial_run.proofs.run.decide_all.Goals as goal

pub loop-ordinal-init : goal.loop-ordinal-init
loop-ordinal-init g c = (search rules, none_yet _ _ _ _, table_as_it_was _ _)

pub loop-ordinal-preserved : goal.loop-ordinal-preserved
loop-ordinal-preserved g c =
    let held = c.loop-ordinal.invariant in
    let got = c.in_ok-got.got in
    let whole : got - 0 ≡ got = omega arith in
    let said = c.decide.ensures ∙ ap (λ n. decide c.args.policy.now c.loop-ordinal.table (take n c.read_full.new.buffer)) whole in (
      search rules,
      one_more _ _ _ _ _ _ c.args.policy.now c.args.table.now c.loop-ordinal.table c.decide.new.table c.loop-ordinal.ordinal _ _
          held.1 c.loop-ordinal-test.true c.in_ok-got.ensures.bytes (search rules) said c.in_ok-print_line.ensures,
      table_one_more _ _ c.loop-ordinal.table c.decide.new.table _ _ held.2 c.decide.ensures,
    )

pub returns-in_err-print_line-clause-table : goal.returns-in_err-print_line-clause-table
returns-in_err-print_line-clause-table g c = table_one_more _ _ c.loop-ordinal.table c.decide.new.table _ _ c.loop-ordinal.invariant.2 c.decide.ensures

pub returns-then-got-eq0-clause-lines : goal.returns-then-got-eq0-clause-lines
returns-then-got-eq0-clause-lines g c = at_the_end _ _ _ _ _ c.args.policy.now c.args.table.now c.loop-ordinal.table c.loop-ordinal.ordinal _ c.loop-ordinal.invariant.1 c.in_ok-got.ensures.bytes (search rules)

pub returns-clause-lines : goal.returns-clause-lines
returns-clause-lines g c = at_the_bound _ _ _ _ c.args.policy.now c.args.table.now c.loop-ordinal.table c.loop-ordinal.ordinal c.loop-ordinal.invariant.1 c.loop-ordinal-test.false
