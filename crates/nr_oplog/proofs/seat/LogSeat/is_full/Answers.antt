use Rattle.std.proofs.Common.{rules, ◌≡◌, List, ◌++◌}
use Rattle.nr_log_end.specs.declared.standing.Load.{Load}
use Rattle.nr_oplog.proofs.Seating.{only_counts}
use Rattle.nr_oplog.proofs.seat.LogSeat.is_full.Goals as goal

pub returns-in-Some-clause-view : goal.returns-in-Some-clause-view
returns-in-Some-clause-view g c =
    let is : c.args.self.now ≡ c.self.inside.seat.me.0 = search rules in
    let more : (more : List Load) × (c.least_passed.new.seat.me.0.looks ≡ c.self.inside.seat.me.0.looks ++ more) = c.least_passed.ensures.looks in
    only_counts c.args.self.now c.self.inside.seat.me c.least_passed.new.seat.me is c.least_passed.ensures.view more
