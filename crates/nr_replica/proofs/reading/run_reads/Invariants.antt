use Rattle.std.proofs.Common.{take}
use Rattle.nr_model.specs.Servers.{emitted_all}
use Rattle.nr_entry.specs.Jobs.{items_of}
use Rattle.nr_replica.specs.Members.{AreNumbered, AreDelivered, members_seen}
use Rattle.nr_replica.specs.Ready.{AreReady}
use Rattle.nr_replica.proofs.reading.run_reads.Given as goal

-- what the reads before the index emit was delivered
abbrev pub invariant-loop-job : goal.invariant-loop-job
invariant-loop-job l =
    AreNumbered l.node 0 (members_seen l.node l.members) × AreReady l.members.ready.sets.items (members_seen l.node l.members)
    × AreDelivered (emitted_all l.machine.state (items_of (take l.job-index l.reads))) (members_seen l.node l.fn.members) (members_seen l.node l.members)
