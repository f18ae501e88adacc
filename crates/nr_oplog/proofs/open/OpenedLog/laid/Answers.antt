use Rattle.std.proofs.Common.{rules}
use Rattle.nr_oplog.proofs.Comings.{starts}
use Rattle.nr_oplog.proofs.open.OpenedLog.laid.Goals as goal

pub vacant-requires : goal.vacant-requires
vacant-requires c = starts _ _ _ _ (search rules) (search rules) (search rules)
