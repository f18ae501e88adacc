use Rattle.std.proofs.Common.{◌≡◌, ℕ, ◌+◌, ◌<◌, ◌≤◌, List, ◌++◌, slice_index}
use Rattle.nr_log_end.specs.declared.standing.Load.{Load}
use Rattle.nr_oplog.specs.Seats.{IsSameSeat, CountsOf}
use Rattle.nr_oplog.proofs.log.Oplog.least_passed.Given as goal

abbrev pub invariant-loop-node : goal.invariant-loop-node
invariant-loop-node g l = IsSameSeat l.initial.seat l.seat × CountsOf l.initial.seat.me l.seat.me × (l.tail < l.least + l.places)
    × ((x : ℕ) → x < l.node → l.least ≤ slice_index l.seat.me.0.met x) × ((more : List Load) × (l.seat.me.0.looks ≡ l.initial.seat.me.0.looks ++ more))
