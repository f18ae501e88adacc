use Rattle.std.proofs.Common.{◌≡◌}
use Rattle.nr_oplog.specs.Seats.{IsSameSeat}
use Rattle.nr_oplog.specs.Calls.{LoadsTo, IsLeastTo}
use Rattle.nr_oplog.proofs.log.Oplog.load_all_passed.Given as goal

abbrev pub invariant-loop-node : goal.invariant-loop-node
invariant-loop-node g l = IsSameSeat l.fn.seat l.seat × (l.seat.me.1 ≡ l.fn.seat.me.1) × LoadsTo l.node l.fn.seat.me.0 l.seat.me.0 × IsLeastTo l.node l.least l.seat.me.0.met
