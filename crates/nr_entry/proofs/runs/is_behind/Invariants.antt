use Rattle.std.proofs.Common.{◌≡◌, take}
use Rattle.nr_entry.specs.Jobs.{connection_of, items_of}
use Rattle.nr_entry.specs.Choice.{is_blocked}
use Rattle.nr_entry.specs.Runs.{jobs_in}
use Rattle.nr_entry.proofs.runs.is_behind.Given as goal

abbrev pub invariant-loop-run : goal.invariant-loop-run
invariant-loop-run l = l.found ≡ is_blocked l.updates (connection_of l.conn) (items_of (jobs_in (take l.run-index l.before)))
