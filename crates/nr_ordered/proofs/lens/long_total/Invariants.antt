use Rattle.std.proofs.Common.{◌≡◌, ◌+◌, drop}
use Rattle.nr_ordered.specs.Blocks.{total}
use Rattle.nr_ordered.proofs.lens.long_total.Given as goal

-- what was added and what is left are all
abbrev pub invariant-loop-len : goal.invariant-loop-len
invariant-loop-len l = l.total + total (drop l.len-index l.lens) ≡ total l.lens
