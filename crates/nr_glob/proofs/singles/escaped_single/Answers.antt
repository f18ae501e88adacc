use Rattle.nr_glob.proofs.Reading.{part_escaped, part_ending}
use Rattle.nr_glob.proofs.singles.escaped_single.Goals as goal

pub returns-in-empty-clause-part : goal.returns-in-empty-clause-part
returns-in-empty-clause-part c = part_ending c.args.behind.now c.in-empty.len_below

pub returns-in-len1-up-clause-part : goal.returns-in-len1-up-clause-part
returns-in-len1-up-clause-part c = part_escaped c.args.behind.now c.in-len1-up.len_at_least
