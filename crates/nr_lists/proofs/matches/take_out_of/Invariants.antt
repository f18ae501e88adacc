use Rattle.std.proofs.Common.{◌≡◌, ◌+◌, ◌-◌, length}
use Rattle.nr_lists.proofs.TakenOut.{Thins}
use Rattle.nr_lists.proofs.matches.take_out_of.Given as goal

-- some stay, and some were taken out
abbrev pub invariant-loop-seen : goal.invariant-loop-seen
invariant-loop-seen l = record {
  thins : Thins l.end l.most l.taken l.seen l.bytes l.fn.items l.items;
  count : l.taken + length l.items ≡ length l.fn.items;
}

abbrev pub decreases-loop-seen : goal.decreases-loop-seen
decreases-loop-seen l = length l.items - l.seen
