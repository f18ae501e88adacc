use Rattle.std.proofs.Common.{◌≤◌, length, take, drop}
use Rattle.nr_model.specs.Servers.{emitted_all}
use Rattle.nr_entry.specs.Jobs.{items_of}
use Rattle.nr_replica.specs.Lent.{AreRepliesTo}
use Rattle.nr_replica.specs.Members.{AreNumbered, AreDelivered, members_seen}
use Rattle.nr_replica.specs.Ready.{AreReady}
use Rattle.nr_replica.proofs.reading.take_all.Given as goal

-- what the reads before these emit was delivered, and the replies to these are those that are left
abbrev pub invariant-loop-run : goal.invariant-loop-run
invariant-loop-run l =
    (l.from ≤ length l.reads) × AreRepliesTo l.machine.state (items_of (drop l.from l.reads)) l.run-iterator.rest.items
    × AreNumbered l.node 0 (members_seen l.node l.members) × AreReady l.members.ready.sets.items (members_seen l.node l.members)
    × AreDelivered (emitted_all l.machine.state (items_of (take l.from l.reads))) (members_seen l.node l.fn.members) (members_seen l.node l.members)
