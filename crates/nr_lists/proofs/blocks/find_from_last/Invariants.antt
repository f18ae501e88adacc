use Rattle.std.proofs.Common.{◌≡◌, ◌+◌, ◌<◌, length, drop}
use Rattle.nr_lists.specs.Packed.{joined}
use Rattle.nr_lists.proofs.blocks.find_from_last.Given as goal

-- the blocks that were passed, and the items in front of them
abbrev pub invariant-loop-left : goal.invariant-loop-left
invariant-loop-left l = record {
  block : l.block < length l.blocks.items;
  some : 0 < l.left;
  passed : l.behind ≡ l.left + length (joined (drop (l.block + 1) l.blocks.items));
}

abbrev pub decreases-loop-left : goal.decreases-loop-left
decreases-loop-left l = l.left
