use Rattle.std.proofs.Common.{rules}
use Rattle.nr_worker.specs.Portions.{portion_of}
use Rattle.nr_worker.proofs.Growing.{accepts_one, accepts_lost}
use Rattle.nr_worker.proofs.open_connections.put_at.Goals as goal

pub returns-in_default-clause-accepts : goal.returns-in_default-clause-accepts
returns-in_default-clause-accepts c =
    accepts_lost c.args.limit c.args.by_serial.now.entries c.get_mut.follows.lender-at-none.entries (portion_of c.args.handed) c.args.serial c.requires
    c.in_default.ensures.value (λ i. (c.get_mut.follows.holds-at-none i).entries)

pub returns-clause-accepts : goal.returns-clause-accepts
returns-clause-accepts c =
    let changes = (c.get_mut.follows.holds c.take_in.new.self).3 (search rules) in
    accepts_one c.args.limit c.args.by_serial.now.entries (c.get_mut.follows.lender c.take_in.new.self).entries (portion_of c.args.handed) c.take_in.result
    c.args.serial c.in-Some.seat.now c.take_in.new.self c.requires c.in-Some.ensures.value changes.0 c.take_in.ensures
