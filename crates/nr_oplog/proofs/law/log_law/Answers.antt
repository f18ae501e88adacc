use Rattle.nr_oplog.proofs.Looks.{holds_of_counts}
use Rattle.nr_oplog.proofs.Reserved.{holds_of_entries}
use Rattle.nr_oplog.proofs.law.log_law.Goals as goal

pub returns-clause-counts : goal.returns-clause-counts
returns-clause-counts c = holds_of_counts

pub returns-clause-entries : goal.returns-clause-entries
returns-clause-entries c = holds_of_entries
