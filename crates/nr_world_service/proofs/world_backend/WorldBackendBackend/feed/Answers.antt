use Rattle.std.proofs.Common.{[], ◌∷◌, refl, subst, ap}
use Rattle.std.specs.Prelude.{is_some}
use Rattle.nr_model.specs.Keyspace.{moment}
use Rattle.nr_model.specs.Connections.{Feeding}
use Rattle.nr_entry.specs.Jobs.{connection_of}
use Rattle.nr_service.specs.Stories.{Fed, IsFed}
use Rattle.nr_world_service.specs.State.{WorldBackendState}
use Rattle.nr_world_service.specs.Led.{HasLedTo}
use Rattle.nr_world_service.proofs.Told.{Kept, sound_kept, is_fed, once_led}
use Rattle.nr_world_service.proofs.world_backend.WorldBackendBackend.feed.Goals as goal

pub invariant_of-self : goal.invariant_of-self
invariant_of-self c = λ up.
    let taps = c.self.inside.taps.by_conn.entries in
    let fed : Feeding = record { connection = connection_of c.args.conn; moment = moment c.args.moment; bytes = c.args.bytes.now } in
    sound_kept c.self.inside.world c.feed.new.world taps taps (Fed fed ∷ []) (c.self.invariant (ap is_some c.in_default.is)) c.in-Ok.ensures (λ d none. none)

pub returns-in-Ok-clause-fed : goal.returns-in-Ok-clause-fed
returns-in-Ok-clause-fed c =
    let conn = connection_of c.args.conn in
    let old : WorldBackendState = record { world = c.self.inside.world; taps = c.self.inside.taps.by_conn.entries; failed = is_some c.self.inside.failed } in
    let new : WorldBackendState = record { world = c.feed.new.world; taps = c.self.inside.taps.by_conn.entries; failed = is_some c.self.inside.failed } in
    subst (λ (a : WorldBackendState). IsFed conn c.args.moment c.args.bytes.now (HasLedTo a) (HasLedTo new) (Kept a) (Kept new)) c.self.view_is
    (is_fed old new conn c.args.moment c.args.bytes.now c.in-Ok.ensures refl)

pub returns-in-Some-clause-left : goal.returns-in-Some-clause-left
returns-in-Some-clause-left c = once_led _

pub returns-in-Err-clause-left : goal.returns-in-Err-clause-left
returns-in-Err-clause-left c = once_led _
