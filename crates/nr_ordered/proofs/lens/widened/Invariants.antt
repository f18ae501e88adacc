use Rattle.std.proofs.Common.{◌≡◌, take}
use Rattle.nr_ordered.proofs.lens.widened.Given as goal

-- those in front were pushed
abbrev pub invariant-loop-len : goal.invariant-loop-len
invariant-loop-len l = l.long.items ≡ take l.len-index l.lens.items
