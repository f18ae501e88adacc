use Rattle.std.proofs.Common.{rules}
use Rattle.nr_oplog.proofs.Comings.{keeps_token}
use Rattle.nr_oplog.proofs.log.Oplog.keep.Goals as goal

pub split_seat-requires : goal.split_seat-requires
split_seat-requires g c = (search rules, search rules, keeps_token _ _ _ _)
