use Rattle.nr_lists.proofs.Laid.{replaced}
use Rattle.nr_lists.proofs.small.Small.replace.Goals as goal

pub returns-clause-ok : goal.returns-clause-ok
returns-clause-ok c = replaced c.args.self.now c.put.new.self c.args.place c.args.item.now c.requires c.in_ok-put.ensures.ok
