use Rattle.std.proofs.Common.{◌-◌, ◌≤◌, length, take}
use Rattle.nr_entry.specs.Jobs.{items_of}
use Rattle.nr_replica.specs.Lent.{AreRepliesTo}
use Rattle.nr_replica.proofs.answering.answer_all.Given as goal

-- so far all were run
abbrev pub invariant-loop-from : goal.invariant-loop-from
invariant-loop-from l = (l.from ≤ length l.jobs) × AreRepliesTo l.machine.state (items_of (take l.from l.jobs)) l.all.items

abbrev pub decreases-loop-from : goal.decreases-loop-from
decreases-loop-from l = length l.jobs - l.from
