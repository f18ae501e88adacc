use Rattle.std.proofs.Common.{rules}
use Rattle.nr_oplog.proofs.Looks.{sees_tail}
use Rattle.nr_oplog.proofs.log.Oplog.load_tail.Goals as goal

pub load-requires : goal.load-requires
load-requires g c = (search rules, search rules, sees_tail _ _ _ _ _ (search rules))
