use Rattle.nr_lists.proofs.Laid.{end_within}
use Rattle.nr_lists.proofs.small.Small.cut.Goals as goal

pub take_out-requires-clause-within : goal.take_out-requires-clause-within
take_out-requires-clause-within c = end_within c.self.inside.block.items c.args.self.now c.args.end c.self.view_is c.requires.within
