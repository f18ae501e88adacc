use Rattle.std.proofs.Common.{◌-◌, length}
use Rattle.nr_lists.proofs.TakenOut.{Thins}
use Rattle.nr_lists.proofs.matches.thinned.Given as goal

-- some stay, and some were taken out
abbrev pub invariant-loop-seen : goal.invariant-loop-seen
invariant-loop-seen l = Thins l.end l.most l.taken l.seen l.fn.bytes l.fn.block l.block

abbrev pub decreases-loop-seen : goal.decreases-loop-seen
decreases-loop-seen l = length l.block - l.seen
