use Rattle.std.proofs.Common.{take}
use Rattle.nr_replica.specs.Members.{AreNumbered, AreGiven, members_seen}
use Rattle.nr_replica.specs.Ready.{AreReady}
use Rattle.nr_replica.proofs.delivering.deliver.Given as goal

-- what stands before the index was given
abbrev pub invariant-loop-index : goal.invariant-loop-index
invariant-loop-index l =
    AreNumbered l.node 0 (members_seen l.node l.members) × AreReady l.members.ready.sets.items (members_seen l.node l.members)
    × AreGiven (take l.index l.staging) (members_seen l.node l.fn.members) (members_seen l.node l.members)
