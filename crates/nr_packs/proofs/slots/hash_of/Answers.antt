use Rattle.std.proofs.Common.{rules}
use Rattle.nr_packs.specs.Tables.{hash}
use Rattle.nr_packs.proofs.slots.hash_of.Goals as goal

pub returns : goal.returns
unfolding hash
returns c = search rules
