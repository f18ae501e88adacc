use Rattle.std.proofs.Common.{subst}
use Rattle.nr_entry.specs.Jobs.{connection_of}
use Rattle.nr_service.specs.Stories.{IsOpened, Keeps}
use Rattle.nr_worker_service.specs.Serving.{WorkerBackendState, kept_at}
use Rattle.nr_worker_service.specs.Led.{HasLedTo}
use Rattle.nr_worker_service.proofs.Calls.{is_opened, keeps_unopened}
use Rattle.nr_worker_service.proofs.serving.WorkerBackendBackend.open.Goals as goal

pub returns-in-Ok-clause-opened : goal.returns-in-Ok-clause-opened
returns-in-Ok-clause-opened g c =
    let conn = connection_of c.in-Ok.conn in
    let old : WorkerBackendState = record { desk = c.self.inside.desk; busy = c.self.inside.is_busy } in
    let new : WorkerBackendState = record { desk = c.open.new.self; busy = c.self.inside.is_busy } in
    subst (λ (v : WorkerBackendState). IsOpened conn (HasLedTo v) (HasLedTo new) (kept_at v) (kept_at new)) c.self.view_is
    (is_opened old new conn c.in-Ok.ensures.opened c.in-Ok.ensures.goes)

pub returns-clause-none : goal.returns-clause-none
returns-clause-none g c =
    let old : WorkerBackendState = record { desk = c.self.inside.desk; busy = c.self.inside.is_busy } in
    let new : WorkerBackendState = record { desk = c.open.new.self; busy = c.self.inside.is_busy } in
    subst (λ (v : WorkerBackendState). Keeps (HasLedTo v) (HasLedTo new) (kept_at v) (kept_at new)) c.self.view_is
    (keeps_unopened old new c.in_default.ensures.unopened c.in_default.ensures.stands)
