use Rattle.std.proofs.Common.{rules}
use Rattle.nr_oplog.proofs.Calls.{pass_stores}
use Rattle.nr_oplog.proofs.log.Oplog.pass_next.Goals as goal

pub store-requires : goal.store-requires
store-requires g c = let q = c.requires in (search rules, search rules, pass_stores _ _ _ _ _ c.args.node c.args.passed q.seat.1 q.seat.2 q.next.0 q.next.2 q.cell)
