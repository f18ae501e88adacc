use Rattle.nr_entry.specs.declared.entry.TheConstants.{MOST_JOBS}
use Rattle.std.proofs.Common.{ap, arith, length}
use Rattle.nr_slots.specs.Seats.{one_if}
use Rattle.nr_worker.specs.Working.{due}
use Rattle.nr_worker.proofs.Batched.{goes_by}
use Rattle.nr_worker.proofs.worker.Worker.post.Goals as goal

pub returns-clause-goes : goal.returns-clause-goes
returns-clause-goes g c =
    let none = ap one_if c.if-self.false in
    let waits = c.self.invariant.0.waits in
    goes_by (due MOST_JOBS (length c.self.inside.returned.items)) c.args.self.now _ c.hand_in.new.worker c.in_ok-jobs.jobs.items c.take_due.new.returned.items
    c.take_due.new.jobs.jobs c.take_due.new.jobs.late c.self.view_is c.in_ok-jobs.ensures.front c.in_ok-jobs.ensures.none c.in_ok-jobs.ensures.behind c.hand_in.ensures
    (omega (arith, waits, none))
