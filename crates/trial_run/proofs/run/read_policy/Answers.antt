use Rattle.std.proofs.Common.{rules}
use Rattle.trial_run.proofs.Reading.{short_front, whole_front, failed_after, on_err}
use Rattle.trial_run.proofs.run.read_policy.Goals as goal

pub returns-then-first-lt-BLOCK_BYTES-clause-bytes : goal.returns-then-first-lt-BLOCK_BYTES-clause-bytes
returns-then-first-lt-BLOCK_BYTES-clause-bytes g c =
    short_front _ _ c.in_ok-first.first _ c.read_full.new.buffer _ (search rules) (search rules) c.if-first-lt-BLOCK_BYTES.true c.in_ok-first.ensures.bytes

pub returns-in_err-rest-clause-failed : goal.returns-in_err-rest-clause-failed
returns-in_err-rest-clause-failed g c =
    on_err c.from_residual-in_err-rest.result
    (failed_after _ _ _ c.in_ok-first.first _ _ c.read_full.new.buffer _ c.read_full-2.new.buffer (search rules) (search rules) c.if-first-lt-BLOCK_BYTES.false c.in_ok-first.ensures.bytes c.in_err-rest.ensures.failed)

pub returns-clause-bytes : goal.returns-clause-bytes
returns-clause-bytes g c =
    whole_front _ _ _ c.in_ok-first.first c.in_ok-rest.rest _ _ c.promised-end.result c.read_full.new.buffer _ c.read_full-2.new.buffer
    (search rules) (search rules) (search rules) (search rules) c.if-first-lt-BLOCK_BYTES.false (search rules)
    c.promised-end.ensures.within.0 c.promised-end.ensures.value c.in_ok-first.ensures.bytes c.in_ok-rest.ensures.bytes
