use Rattle.std.proofs.Common.{◌≡◌, take}
use Rattle.nr_model.specs.Entries.{entry_moment}
use Rattle.nr_entry.specs.Jobs.{items_of}
use Rattle.nr_entry.proofs.entry.Entry.new.Given as goal

abbrev pub invariant-loop-job : goal.invariant-loop-job
invariant-loop-job l = l.moment ≡ entry_moment (items_of (take l.job-index l.job-items))
