use Rattle.std.proofs.Common.{rules, ◌≡◌, true}
use Rattle.nr_oplog.proofs.Seating.{seated_pass}
use Rattle.nr_oplog.proofs.seat.LogSeat.pass.Goals as goal

pub invariant_of-self : goal.invariant_of-self
invariant_of-self g c = let held : c.self.inside.held ≡ true = search rules in (search rules, search rules, search rules, seated_pass _ _ _ _ _ _ _ _ _ c.self.invariant.3 held c.pass_next.ensures.view)
