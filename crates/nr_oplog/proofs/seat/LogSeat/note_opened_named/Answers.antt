use Rattle.std.proofs.Common.{rules, ap}
use Rattle.nr_log_end.specs.Standings.{applied_of}
use Rattle.nr_oplog.proofs.Seating.{seated_done}
use Rattle.nr_oplog.proofs.seat.LogSeat.note_opened_named.Goals as goal

pub load_tail_and_do-self-inside-requires-clause-none : goal.load_tail_and_do-self-inside-requires-clause-none
load_tail_and_do-self-inside-requires-clause-none g c = ap applied_of c.requires

pub invariant_of-self : goal.invariant_of-self
invariant_of-self g c = let f = c.load_tail_and_do-self-inside.ensures in
    (search rules, search rules, search rules, seated_done _ _ _ (ap applied_of c.requires) _ _ _ _ _ _ _ _ c.self.invariant.3 f.view)
