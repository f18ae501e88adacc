use Rattle.nr_worker_service.proofs.Leading.{led_fresh}
use Rattle.nr_worker_service.proofs.serving.WorkerBackend.new.Goals as goal

pub returns-clause-past : goal.returns-clause-past
returns-clause-past g c = led_fresh _ c.args.worker.node c.args.worker.seat.worker c.new.ensures.reflects
