use Rattle.std.proofs.Common.{rules}
use Rattle.nr_slots.proofs.Openings.{starts}
use Rattle.nr_slots.proofs.opening.laid.Goals as goal

pub vacant-requires : goal.vacant-requires
vacant-requires c = starts _ _ _ (search rules) (search rules)
