use Rattle.std.proofs.Common.{◌≡◌, take}
use Rattle.nr_entry.specs.Jobs.{items_of}
use Rattle.nr_job_numbers.specs.Stored.{reopened_all}
use Rattle.nr_job_numbers.proofs.taking.reopen_all.Given as goal

abbrev pub invariant-loop-index : goal.invariant-loop-index
invariant-loop-index l = reopened_all l.held (items_of (take l.index l.jobs)) ≡ reopened_all l.fn.held (items_of l.jobs)
