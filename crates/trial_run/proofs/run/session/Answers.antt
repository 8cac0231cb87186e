use Rattle.trial_run.proofs.Deciding.{table_as_made}
use Rattle.trial_run.proofs.run.session.Goals as goal

pub returns-in-Err-clause-table : goal.returns-in-Err-clause-table
returns-in-Err-clause-table g c = table_as_made _ _ _ _ c.make_table.ensures
