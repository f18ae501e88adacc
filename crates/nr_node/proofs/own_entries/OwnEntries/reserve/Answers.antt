use Rattle.nr_node.proofs.Shares.{first_there}
use Rattle.nr_node.proofs.own_entries.OwnEntries.reserve.Goals as goal

pub prepare-requires : goal.prepare-requires
prepare-requires g c = first_there c.args.end.now.standing c.args.shares c.requires.nodes c.requires.shares
