use Rattle.std.proofs.Common.{refl}
use Rattle.nr_worker.proofs.Awaited.{settled_by}
use Rattle.nr_worker.proofs.worker.Worker.collect.Goals as goal

pub returns-clause-goes : goal.returns-clause-goes
returns-clause-goes g c =
    settled_by c.args.self.now _ c.in_ok-outcome.outcome c.collect.new.self c.self.inside.returned.items c.self.inside.due.jobs c.settle.new.returned.items
    c.settle.new.due.jobs c.settle.new.is_down c.settle.new.due.late c.self.view_is refl (c.self.invariant.0.none c.if-not-self.false)
    c.in_ok-outcome.ensures.collected c.settle.ensures.back c.settle.ensures.left c.settle.ensures.down c.settle.ensures.late
