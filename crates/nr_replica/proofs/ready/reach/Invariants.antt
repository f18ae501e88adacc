use Rattle.std.proofs.Common.{◌-◌, suc, length}
use Rattle.nr_replica.specs.Ready.{IsAsBefore}
use Rattle.nr_replica.proofs.ready.reach.Given as goal

-- some sets more stand there, all of them empty
abbrev pub invariant-loop-alloc : goal.invariant-loop-alloc
invariant-loop-alloc l = IsAsBefore l.fn.sets.items l.sets.items

abbrev pub decreases-loop-alloc : goal.decreases-loop-alloc
decreases-loop-alloc l = suc l.worker - length l.sets.items
