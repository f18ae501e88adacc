use Rattle.std.proofs.Common.{◌≡◌, drop}
use Rattle.nr_lists.proofs.blocks.skip_blocks.Given as goal

-- some of the first are gone
abbrev pub invariant-loop : goal.invariant-loop
invariant-loop l = l.blocks.items ≡ drop l.counter l.fn.blocks.items
