use Rattle.std.proofs.Common.{arith, ◌<◌, length, get_or, refl}
use Rattle.nr_world.specs.declared.worker.WorldWorker.{WorldWorker}
use Rattle.nr_world.proofs.Forgotten.{forgotten_step}
use Rattle.nr_world.proofs.pending_jobs.drop_pending.Goals as goal

pub loop-worker-preserved : goal.loop-worker-preserved
loop-worker-preserved c =
    let item : WorldWorker = get_or c.loop-worker.workers c.loop-worker.worker-index c.worker-item.result in
    let within : c.loop-worker.worker-index < length c.loop-worker.workers = omega arith in
    forgotten_step c.loop-worker.worker-index c.args.workers.now c.loop-worker.workers
    (record { pending = c.clear.new.self; batches = item.batches; slot = item.slot }) c.worker-item.result
    c.loop-worker.invariant within (record { pending = c.clear.ensures.items; batches = refl; slot = refl })
