use Rattle.nr_worker.proofs.Altered.{stopped_by}
use Rattle.nr_worker.proofs.worker.Worker.stop.Goals as goal

pub returns-clause-goes : goal.returns-clause-goes
returns-clause-goes g c = stopped_by c.args.self.now _ c.cut.new.self c.args.serial c.self.view_is c.cut.ensures.cut
