use Rattle.nr_lists.proofs.Around.{block_out, last_item_out}
use Rattle.nr_lists.proofs.blocks.drop_last_of.Goals as goal

pub returns-then-len-eq1 : goal.returns-then-len-eq1
returns-then-len-eq1 c =
    block_out c.args.blocks.now.items c.remove_block.new.blocks.items c.args.block c.len-len.result c.index.result.now c.requires c.index.ensures c.len-len.ensures.len
    c.if-len-eq1.true c.remove_block.ensures

pub returns : goal.returns
returns c =
    last_item_out c.args.blocks.now.items c.args.block c.len-len.result c.index.result.now c.index_mut.result.now c.cut.new.self c.requires c.index.ensures
    c.len-len.ensures.len c.len-len.ensures.some c.index_mut.ensures.value c.cut.ensures
