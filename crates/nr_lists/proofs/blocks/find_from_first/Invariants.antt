use Rattle.std.proofs.Common.{◌≡◌, ◌+◌, length, take}
use Rattle.nr_lists.specs.Packed.{joined}
use Rattle.nr_lists.proofs.blocks.find_from_first.Given as goal

-- the blocks that were passed, and the place behind them
abbrev pub invariant-loop-place : goal.invariant-loop-place
invariant-loop-place l = l.before ≡ length (joined (take l.block l.blocks.items)) + l.place

abbrev pub decreases-loop-place : goal.decreases-loop-place
decreases-loop-place l = l.place
