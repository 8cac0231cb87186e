use Rattle.forms.specs.Form.{space}
use Rattle.reader.proofs.Counts.{end_fits}
use Rattle.reader.proofs.Scans.{given_on}
use Rattle.reader.proofs.Ahead.{none_read, tag_stopped, tag_read}
use Rattle.reader.proofs.reading.whole_tag.Goals as goal

pub begin-requires : goal.begin-requires
begin-requires c = (rw c.run_end-start.ensures (end_fits space c.args.text.now c.args.at c.requires.0), c.requires.1)

pub returns-in_err-begun : goal.returns-in_err-begun
returns-in_err-begun c = rw (given_on c.from_residual.ensures.1)
    (none_read c.args.state c.requires.1 c.requires.0 _ (rw c.run_end-start.ensures at c.in_err-begun.ensures))

pub returns-in_err-end : goal.returns-in_err-end
returns-in_err-end c = rw (given_on c.from_residual-in_err-end.ensures.1)
    (tag_stopped c.args.state c.requires.1 c.requires.0 _ (rw c.run_end-start.ensures at c.in_ok-begun.ensures) c.in_err-end.ensures)

pub returns : goal.returns
returns c = tag_read c.args.state c.requires.1 c.requires.0 _ (rw c.run_end-start.ensures at c.in_ok-begun.ensures) _ c.next_state.ensures c.in_ok-end.ensures
