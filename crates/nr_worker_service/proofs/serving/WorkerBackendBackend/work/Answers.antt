use Rattle.std.proofs.Common.{subst}
use Rattle.nr_service.specs.Stories.{HasWorked}
use Rattle.nr_worker.specs.Working.{WorkState}
use Rattle.nr_worker_service.specs.Serving.{WorkerBackendState, kept_at}
use Rattle.nr_worker_service.specs.Led.{HasLedTo, IsAtRest}
use Rattle.nr_worker_service.specs.Works.{Works}
use Rattle.nr_worker_service.proofs.Calls.{has_worked}
use Rattle.nr_worker_service.proofs.serving.WorkerBackendBackend.work.Goals as goal

pub returns-clause-worked : goal.returns-clause-worked
returns-clause-worked g c =
    let worked = c.work_on-worked in
    let old : WorkerBackendState = record { desk = c.self.inside.desk; busy = c.self.inside.is_busy } in
    let new : WorkerBackendState = record { desk = worked.new.desk; busy = worked.result.is_busy } in
    subst (λ (v : WorkerBackendState). HasWorked (HasLedTo v) (HasLedTo new) (IsAtRest g.B.LogName.places new) (kept_at v) (kept_at new)) c.self.view_is
    (has_worked g.B.LogName.places old new (subst (λ (d : WorkState). Works d worked.new.desk) c.forget_told.ensures worked.ensures.works) worked.ensures.rest)
