use Rattle.std.proofs.Common.{subst, ap}
use Rattle.std.specs.Prelude.{is_some}
use Rattle.nr_entry.specs.Jobs.{connection_of}
use Rattle.nr_service.specs.Stories.{IsClosed}
use Rattle.nr_world_service.specs.State.{WorldBackendState}
use Rattle.nr_world_service.specs.Led.{HasLedTo}
use Rattle.nr_world_service.specs.Stands.{IsGone}
use Rattle.nr_world_service.proofs.Told.{Kept, sound_kept, put_none, is_closed, gone_told, once_led}
use Rattle.nr_world_service.proofs.world_backend.WorldBackendBackend.close.Goals as goal

pub invariant_of-self : goal.invariant_of-self
invariant_of-self c = λ up.
    let before = c.self.inside.taps.by_conn.entries in
    let after = c.close-in-Ok.new.self.by_conn.entries in
    sound_kept c.self.inside.world c.close.new.world before after c.in-Ok.ensures.shut (c.self.invariant (ap is_some c.in_default.is)) c.in-Ok.ensures.moves
    (put_none before after c.args.conn c.close-in-Ok.ensures)

pub returns-in-Ok-clause-closed : goal.returns-in-Ok-clause-closed
returns-in-Ok-clause-closed c =
    let conn = connection_of c.args.conn in
    let old : WorldBackendState = record { world = c.self.inside.world; taps = c.self.inside.taps.by_conn.entries; failed = is_some c.self.inside.failed } in
    let new : WorldBackendState = record { world = c.close.new.world; taps = c.close-in-Ok.new.self.by_conn.entries; failed = is_some c.self.inside.failed } in
    subst (λ (a : WorldBackendState). IsClosed conn c.args.moment (IsGone a.world conn) (HasLedTo a) (HasLedTo new) (Kept a) (Kept new)) c.self.view_is
    (is_closed old new c.args.conn c.args.moment (c.self.invariant (ap is_some c.in_default.is)) c.in-Ok.ensures c.close-in-Ok.ensures)

pub returns-in-Ok-clause-gone : goal.returns-in-Ok-clause-gone
returns-in-Ok-clause-gone c =
    gone_told c.self.inside.world c.close.new.world c.self.inside.taps.by_conn.entries (connection_of c.args.conn) c.args.moment (c.self.invariant (ap is_some c.in_default.is))
    c.in-Ok.ensures

pub returns-in-Some-clause-left : goal.returns-in-Some-clause-left
returns-in-Some-clause-left c = once_led _

pub returns-in-Err-clause-left : goal.returns-in-Err-clause-left
returns-in-Err-clause-left c = once_led _
