use Rattle.std.proofs.Common.{refl, ◌∙◌, subst}
use Rattle.nr_entry.specs.Jobs.{connection_of}
use Rattle.nr_service.specs.Stories.{IsWritten}
use Rattle.nr_worker_service.specs.Serving.{WorkerBackendState, kept_at}
use Rattle.nr_worker_service.specs.Led.{HasLedTo, IsAtRest}
use Rattle.nr_worker_service.proofs.Calls.{is_written}
use Rattle.nr_worker_service.proofs.serving.WorkerBackendBackend.written.Goals as goal

pub returns-then-conn-node : goal.returns-then-conn-node
returns-then-conn-node g c =
    let conn = connection_of c.args.conn in
    let old : WorkerBackendState = record { desk = c.self.inside.desk; busy = c.self.inside.is_busy } in
    let new : WorkerBackendState = record { desk = c.written.new.self; busy = c.self.inside.is_busy } in
    subst (λ (v : WorkerBackendState). IsWritten conn c.args.count (HasLedTo v) (HasLedTo new) (IsAtRest g.B.LogName.places v) (IsAtRest g.B.LogName.places new) (kept_at v) (kept_at new)) c.self.view_is
    (is_written g.B.LogName.places old new conn c.args.count (c.if-conn-node.true ∙ c.node.ensures) c.written.ensures.written c.written.ensures.goes refl)
