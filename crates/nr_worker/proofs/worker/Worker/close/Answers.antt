use Rattle.std.proofs.Common.{refl}
use Rattle.nr_worker.proofs.Departed.{closed_by}
use Rattle.nr_worker.proofs.worker.Worker.close.Goals as goal

pub returns-clause-closed : goal.returns-clause-closed
returns-clause-closed g c =
    (closed_by c.args.self.now _ c.close.new.self c.close-closed.new.self c.self.inside.returned.items c.self.inside.due.jobs c.put_last.new.due.jobs c.put_last.new.due.late
    c.args.serial c.args.moment c.close-closed.result c.self.view_is c.close.ensures.closed refl c.close-closed.ensures.closed c.close-closed.ensures.gone c.put_last.ensures.last
    c.put_last.ensures.late).0

pub returns-clause-goes : goal.returns-clause-goes
returns-clause-goes g c =
    (closed_by c.args.self.now _ c.close.new.self c.close-closed.new.self c.self.inside.returned.items c.self.inside.due.jobs c.put_last.new.due.jobs c.put_last.new.due.late
    c.args.serial c.args.moment c.close-closed.result c.self.view_is c.close.ensures.closed refl c.close-closed.ensures.closed c.close-closed.ensures.gone c.put_last.ensures.last
    c.put_last.ensures.late).1
