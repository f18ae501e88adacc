use Rattle.std.proofs.Common.{take}
use Rattle.nr_entry.specs.Jobs.{items_of}
use Rattle.nr_replica.specs.Members.{AreReads}
use Rattle.nr_replica.proofs.answering.are_reads.Given as goal

-- those before the index are reads
abbrev pub invariant-loop-job : goal.invariant-loop-job
invariant-loop-job l = AreReads (items_of (take l.job-index l.jobs))
