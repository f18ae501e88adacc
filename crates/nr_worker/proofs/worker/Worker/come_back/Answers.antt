use Rattle.std.proofs.Common.{ap}
use Rattle.nr_worker.specs.Due.{DueState}
use Rattle.nr_worker.proofs.Returned.{back_by}
use Rattle.nr_worker.proofs.worker.Worker.come_back.Goals as goal

pub returns-clause-goes : goal.returns-clause-goes
returns-clause-goes g c =
    back_by c.args.self.now _ c.args.since c.clear.new.self.items c.clear-2.new.self.jobs c.clear-2.new.self.late c.self.view_is c.requires.bare c.clear.ensures.items
    (ap (λ (d : DueState). d.jobs) c.clear-2.ensures) (ap (λ (d : DueState). d.late) c.clear-2.ensures)
