use Rattle.nr_worker.proofs.Altered.{written_by}
use Rattle.nr_worker.proofs.worker.Worker.written.Goals as goal

pub returns-clause-goes : goal.returns-clause-goes
returns-clause-goes g c = written_by c.args.self.now _ c.written.new.self c.args.serial c.args.count c.self.view_is c.written.ensures.written
