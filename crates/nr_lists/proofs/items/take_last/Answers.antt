use Rattle.std.proofs.Common.{◌∙◌, sym}
use Rattle.std.specs.VecDeque.Iter.{deque_iter_rest}
use Rattle.nr_lists.proofs.Packed.{last_of_all}
use Rattle.nr_lists.proofs.items.take_last.Goals as goal

pub returns-clause-item : goal.returns-clause-item
returns-clause-item c =
    last_of_all c.args.first.now c.args.last.now c.in-Some-next_back.block.now c.take_last-2.new.self
    _ (deque_iter_rest c.args.blocks.now) (deque_iter_rest c.next_back.new.self)
    c.in_default.ensures.none c.in-Some-next_back.ensures.steps (sym c.items.ensures.items ∙ c.take_last-2.ensures.item)
