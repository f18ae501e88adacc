use Rattle.nr_strings.proofs.Counted.{front_count}
use Rattle.nr_strings.proofs.counts.ones_in_front.Goals as goal

pub returns-clause-count : goal.returns-clause-count
returns-clause-count c = front_count c.args.byte c.args.end c.ranges.byte.fits c.requires
