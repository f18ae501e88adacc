use Rattle.std.proofs.Common.{refl, sym, ◌∙◌, subst}
use Rattle.nr_entry.specs.Jobs.{connection_of}
use Rattle.nr_service.specs.Stories.{IsClosed}
use Rattle.nr_worker_service.specs.Serving.{WorkerBackendState, kept_at}
use Rattle.nr_worker_service.specs.Led.{HasLedTo}
use Rattle.nr_worker_service.proofs.Calls.{IsGoneFrom, gone_absent, gone_other, is_closed, is_closed_none}
use Rattle.nr_worker_service.proofs.serving.WorkerBackendBackend.close.Goals as goal

pub returns-then-conn-node-clause-closed : goal.returns-then-conn-node-clause-closed
returns-then-conn-node-clause-closed g c =
    let conn = connection_of c.args.conn in
    let old : WorkerBackendState = record { desk = c.self.inside.desk; busy = c.self.inside.is_busy } in
    subst (λ (v : WorkerBackendState). IsClosed conn c.args.moment (IsGoneFrom v conn) (HasLedTo v) (HasLedTo v) (kept_at v) (kept_at v)) c.self.view_is
    (is_closed_none old old conn c.args.moment (gone_other old conn c.node.result c.node.ensures c.if-conn-node.true) refl)

pub returns-then-not-is_open-clause-closed : goal.returns-then-not-is_open-clause-closed
returns-then-not-is_open-clause-closed g c =
    let conn = connection_of c.args.conn in
    let old : WorkerBackendState = record { desk = c.self.inside.desk; busy = c.self.inside.is_busy } in
    subst (λ (v : WorkerBackendState). IsClosed conn c.args.moment (IsGoneFrom v conn) (HasLedTo v) (HasLedTo v) (kept_at v) (kept_at v)) c.self.view_is
    (is_closed_none old old conn c.args.moment (gone_absent old conn (sym c.is_open.ensures ∙ c.if-not-is_open.true)) refl)

pub returns-clause-closed : goal.returns-clause-closed
returns-clause-closed g c =
    let conn = connection_of c.args.conn in
    let old : WorkerBackendState = record { desk = c.self.inside.desk; busy = c.self.inside.is_busy } in
    let new : WorkerBackendState = record { desk = c.close.new.self; busy = c.self.inside.is_busy } in
    subst (λ (v : WorkerBackendState). IsClosed conn c.args.moment (IsGoneFrom v conn) (HasLedTo v) (HasLedTo new) (kept_at v) (kept_at new)) c.self.view_is
    (is_closed old new conn c.args.moment c.capped.result (c.if-conn-node.false ∙ c.node.ensures) (sym c.is_open.ensures ∙ c.if-not-is_open.false)
    c.capped.ensures.value c.close.ensures.closed c.close.ensures.goes)
