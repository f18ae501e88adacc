use Rattle.std.proofs.Common.{◌≡◌, take}
use Rattle.nr_entry.specs.Jobs.{items_of}
use Rattle.nr_job_numbers.specs.Stored.{closed_all}
use Rattle.nr_job_numbers.proofs.taking.close_all.Given as goal

abbrev pub invariant-loop-job : goal.invariant-loop-job
invariant-loop-job l = l.held ≡ closed_all l.node l.initial.held (items_of (take l.job-index l.jobs))
