use Rattle.std.proofs.Common.{subst, ap}
use Rattle.nr_entry.specs.Jobs.{connection_of}
use Rattle.nr_service.specs.Stories.{IsOpened, Keeps}
use Rattle.nr_world_service.specs.State.{WorldBackendState}
use Rattle.nr_world_service.specs.Led.{HasLedTo}
use Rattle.nr_world_service.specs.Stands.{IsFull}
use Rattle.nr_world_service.proofs.Told.{Kept, sound_tapped, opened_told, none_told, full_told, once_led}
use Rattle.std.specs.Prelude.{IfSome, IfNone, is_some}
use Rattle.nr_entry.specs.declared.conn.ConnId.{ConnId}
use Rattle.nr_world_service.specs.Placing.{IsPlaced}
use Rattle.nr_world_service.proofs.Placed.{placed_told}
use Rattle.nr_world_service.proofs.world_backend.WorldBackendBackend.open.Goals as goal

pub invariant_of-self : goal.invariant_of-self
invariant_of-self c = λ up.
    sound_tapped c.self.inside.world c.open_tapped.new.world c.self.inside.taps.by_conn.entries c.open_tapped.new.taps.by_conn.entries
    c.in-Ok.opened (c.self.invariant (ap is_some c.in_default.is)) c.in-Ok.ensures.moves c.in-Ok.ensures.taps

pub returns-in-Ok-clause-opened : goal.returns-in-Ok-clause-opened
returns-in-Ok-clause-opened c =
    let old : WorldBackendState = record { world = c.self.inside.world; taps = c.self.inside.taps.by_conn.entries; failed = is_some c.self.inside.failed } in
    let new : WorldBackendState = record { world = c.open_tapped.new.world; taps = c.open_tapped.new.taps.by_conn.entries; failed = is_some c.self.inside.failed } in
    subst (λ (a : WorldBackendState). IfSome c.in-Ok.opened
    (λ (conn : ConnId). IsOpened (connection_of conn) (HasLedTo a) (HasLedTo new) (Kept a) (Kept new)))
    c.self.view_is
    (opened_told old new c.in-Ok.opened (c.self.invariant (ap is_some c.in_default.is)) c.in-Ok.ensures.moves c.in-Ok.ensures.taps)

pub returns-in-Ok-clause-none : goal.returns-in-Ok-clause-none
returns-in-Ok-clause-none c =
    let old : WorldBackendState = record { world = c.self.inside.world; taps = c.self.inside.taps.by_conn.entries; failed = is_some c.self.inside.failed } in
    let new : WorldBackendState = record { world = c.open_tapped.new.world; taps = c.open_tapped.new.taps.by_conn.entries; failed = is_some c.self.inside.failed } in
    subst (λ (a : WorldBackendState). IfNone c.in-Ok.opened (Keeps (HasLedTo a) (HasLedTo new) (Kept a) (Kept new))) c.self.view_is
    (none_told old new c.in-Ok.opened c.in-Ok.ensures.moves c.in-Ok.ensures.taps)

pub returns-in-Ok-clause-placed : goal.returns-in-Ok-clause-placed
returns-in-Ok-clause-placed c =
    subst (λ (a : WorldBackendState). IfSome c.in-Ok.opened
    (λ (conn : ConnId). IsPlaced a.world c.open_tapped.new.world c.args.number (connection_of conn)))
    c.self.view_is
    (placed_told c.self.inside.world c.open_tapped.new.world c.self.inside.taps.by_conn.entries c.args.number c.in-Ok.opened
    (c.self.invariant (ap is_some c.in_default.is)) c.in-Ok.ensures.placed)

pub returns-in-Ok-clause-full : goal.returns-in-Ok-clause-full
returns-in-Ok-clause-full c =
    subst (λ (a : WorldBackendState). IfNone c.in-Ok.opened (IsFull a.world)) c.self.view_is
    (full_told c.self.inside.world c.self.inside.taps.by_conn.entries c.in-Ok.opened (c.self.invariant (ap is_some c.in_default.is))
    c.in-Ok.ensures.full)

pub returns-in-Some-clause-left : goal.returns-in-Some-clause-left
returns-in-Some-clause-left c = once_led _

pub returns-in-Err-clause-left : goal.returns-in-Err-clause-left
returns-in-Err-clause-left c = once_led _
