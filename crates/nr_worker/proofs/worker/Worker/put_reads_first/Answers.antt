use Rattle.std.proofs.Common.{refl}
use Rattle.nr_worker.proofs.Reordered.{reordered}
use Rattle.nr_worker.proofs.worker.Worker.put_reads_first.Goals as goal

pub returns-clause-goes : goal.returns-clause-goes
returns-clause-goes g c =
    reordered c.args.self.now _ c.self.inside.returned.items c.self.inside.due.jobs c.put_reads_first-count.new.self.jobs c.put_reads_first-count.new.self.late c.self.view_is refl
    c.put_reads_first-count.ensures.own
