use Rattle.std.proofs.Common.{rules}
use Rattle.nr_oplog.proofs.Looks.{does}
use Rattle.nr_oplog.proofs.log.Oplog.load_tail_and_do.Goals as goal

pub load-requires : goal.load-requires
load-requires g c = (search rules, search rules, does _ _ _ _ _ _ c.requires.none c.requires.rising (search rules))
