use Rattle.std.proofs.Common.{rules}
use Rattle.nr_oplog.proofs.Adopted.{adopts}
use Rattle.nr_oplog.proofs.Comings.{tells}
use Rattle.nr_oplog.proofs.log.Oplog.adopt.Goals as goal

pub join_seat-requires : goal.join_seat-requires
join_seat-requires g c = (search rules, search rules, search rules, search rules, tells _ _ _ _ _ _)

pub load-requires : goal.load-requires
load-requires g c = (search rules, search rules, adopts _ _ _ _ _ (search rules))
