use Rattle.std.proofs.Common.{◌≡◌, ℕ, take}
use Rattle.nr_entry.specs.Jobs.{items_of}
use Rattle.nr_replica.specs.Members.{members_seen}
use Rattle.nr_replica.specs.Replicas.{owed_from}
use Rattle.nr_replica.proofs.settling.settle.Given as goal

-- the jobs before the index are owed no more
abbrev pub invariant-loop-job : goal.invariant-loop-job
invariant-loop-job l = (n : ℕ) → l.owed ≡ owed_from 0 (members_seen n l.members) (items_of (take l.job-index l.jobs)) l.fn.owed
