use Rattle.nr_lists.proofs.Around.{cut_end}
use Rattle.nr_lists.proofs.blocks.truncate.Goals as goal

pub returns : goal.returns
returns c =
    cut_end c.args.blocks.now.items c.truncate.new.self.items c.cut.new.blocks.items c.find-block.result.0 c.find-block.result.1 c.args.end c.find-block.ensures.block
    c.find-block.ensures.place c.requires.some c.find-block.ensures.whole c.truncate.ensures.items c.cut.ensures
