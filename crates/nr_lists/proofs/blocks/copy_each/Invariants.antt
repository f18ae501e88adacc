use Rattle.std.proofs.Common.{◌≡◌, ◌++◌}
use Rattle.std.specs.VecDeque.Iter.{deque_iter_rest}
use Rattle.nr_lists.proofs.blocks.copy_each.Given as goal

-- what is copied and what is left are all
abbrev pub invariant-loop-block : goal.invariant-loop-block
invariant-loop-block l = l.copied.items ++ deque_iter_rest l.block-iterator ≡ l.fn.blocks.items
