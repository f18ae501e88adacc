use Rattle.std.proofs.Common.{◌≡◌, true}
use Rattle.nr_replica.specs.Backlogs.{HasBacklogAmong}
use Rattle.nr_replica.proofs.backlog.hold_back.Given as goal

-- where one was found it is there
abbrev pub invariant-loop-backlog : goal.invariant-loop-backlog
invariant-loop-backlog l = l.is_held ≡ true → HasBacklogAmong l.opened l.queues.entries
