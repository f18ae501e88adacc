use Rattle.std.proofs.Common.{◌≡◌, ◌++◌, map}
use Rattle.nr_ordered.specs.Lists.{part, shown}
use Rattle.nr_zsets.specs.Forms.{items_in}
use Rattle.nr_zsets.proofs.block.lend.Given as goal

-- what was lent, and what is left to lend, are all
abbrev pub invariant-loop-member : goal.invariant-loop-member
invariant-loop-member l = map shown l.lent.items ++ part l.passed l.left l.member-iterator ≡ part l.from l.to (items_in l.pairs)
