use Rattle.std.proofs.Common.{◌≡◌, drop}
use Rattle.nr_model.specs.Asked.{own_jobs, first_number}
use Rattle.nr_entry.specs.Jobs.{connection_of, items_of}
use Rattle.nr_entry.specs.Runs.{jobs_in}
use Rattle.nr_entry.proofs.runs.first_number.Given as goal

abbrev pub invariant-loop-run : goal.invariant-loop-run
invariant-loop-run l = first_number (own_jobs (connection_of l.conn) (items_of (jobs_in (drop l.run-index l.runs)))) ≡ first_number (own_jobs (connection_of l.conn) (items_of (jobs_in l.runs)))
