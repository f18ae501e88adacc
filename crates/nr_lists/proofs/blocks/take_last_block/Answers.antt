use Rattle.nr_lists.proofs.Around.{popped_alone}
use Rattle.nr_lists.proofs.blocks.take_last_block.Goals as goal

pub returns-clause-item : goal.returns-clause-item
returns-clause-item c = popped_alone c.args.blocks.now.items c.pop_back.new.self.items c.in_ok-block.block c.into_item.result c.in_ok-block.ensures.items c.into_item.ensures
