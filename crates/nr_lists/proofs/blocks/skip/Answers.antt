use Rattle.nr_lists.proofs.Around.{cut_start}
use Rattle.nr_lists.proofs.blocks.skip.Goals as goal

pub returns : goal.returns
returns c =
    cut_start c.args.blocks.now.items c.skip_blocks.new.blocks.items c.index_mut.result.now c.cut.new.self c.find-block.result.0 c.find-block.result.1 c.args.start
    c.find-block.ensures.block c.find-block.ensures.place c.find-block.ensures.whole c.skip_blocks.ensures c.index_mut.ensures.value c.cut.ensures
