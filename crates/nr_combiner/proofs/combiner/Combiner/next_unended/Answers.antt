use Rattle.std.proofs.Common.{refl, subst}
use Rattle.nr_slots.specs.Seats.{desk_of}
use Rattle.nr_node.specs.Level.{connection_at}
use Rattle.nr_combiner.specs.Pieces.{HasJobOf}
use Rattle.nr_combiner.specs.Served.{CombinerState}
use Rattle.nr_combiner.proofs.Ends.{job_lifted}
use Rattle.nr_combiner.proofs.combiner.Combiner.next_unended.Goals as goal

pub returns-clause-handed_in : goal.returns-clause-handed_in
returns-clause-handed_in g c =
    let inside = c.self.inside in
    let one = c.in_ok-unended.unended in
    let told = c.in_ok-unended.ensures in
    subst (λ (x : CombinerState). HasJobOf (connection_at x.node.book.node one.serial) (desk_of x.seat c.args.worker).lifted) c.self.view_is
    (job_lifted inside.core inside.seat.desks c.args.worker one.next (connection_at inside.core.book.node one.serial) refl told.served.1 told.numbered told.some
    c.self.invariant.0.handed_in)
