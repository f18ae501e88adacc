use Rattle.std.proofs.Common.{◌≡◌, sym, subst}
use Rattle.nr_entry.specs.Jobs.{connection_of}
use Rattle.nr_service.specs.Stories.{IsFed}
use Rattle.nr_service.specs.declared.backend.ConnectionState.TheVariants as standings
use Rattle.nr_worker_service.specs.Serving.{WorkerBackendState, kept_at, standing_of}
use Rattle.nr_worker_service.specs.Led.{HasLedTo}
use Rattle.nr_worker_service.proofs.Calls.{is_fed}
use Rattle.nr_worker_service.proofs.serving.WorkerBackendBackend.feed.Goals as goal

pub returns-clause-fed : goal.returns-clause-fed
returns-clause-fed g c =
    let conn = connection_of c.args.conn in
    let old : WorkerBackendState = record { desk = c.self.inside.desk; busy = c.self.inside.is_busy } in
    let new : WorkerBackendState = record { desk = c.feed-is_whole.new.self; busy = c.self.inside.is_busy } in
    subst (λ (v : WorkerBackendState). IsFed conn c.args.moment c.args.bytes.now (HasLedTo v) (HasLedTo new) (kept_at v) (kept_at new)) c.self.view_is
    (is_fed c.feed-is_whole.result old new conn c.args.moment c.capped.result c.args.bytes.now
    (subst (λ (v : WorkerBackendState). standings.Open ≡ standing_of v conn) (sym c.self.view_is) c.requires) c.capped.ensures.value
    c.feed-is_whole.ensures.fed c.feed-is_whole.ensures.stopped c.feed-is_whole.ensures.goes)
