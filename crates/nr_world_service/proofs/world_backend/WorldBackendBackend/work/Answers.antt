use Rattle.std.proofs.Common.{map, subst, ap}
use Rattle.std.specs.Prelude.{is_some}
use Rattle.nr_world.specs.Seen.{handed_seen}
use Rattle.nr_service.specs.Stories.{HandedOut, HasWorked}
use Rattle.nr_world_service.specs.State.{WorldBackendState}
use Rattle.nr_world_service.specs.Led.{HasLedTo, IsAtRest}
use Rattle.nr_world_service.proofs.Told.{Kept, sound_kept, added_absent, has_worked, once_led}
use Rattle.nr_world_service.proofs.world_backend.WorldBackendBackend.work.Goals as goal

pub invariant_of-self : goal.invariant_of-self
invariant_of-self c = λ up.
    let before = c.self.inside.taps.by_conn.entries in
    let after = c.put_each.new.self.by_conn.entries in
    let handed = map handed_seen c.in-Ok.handed.items in
    sound_kept c.self.inside.world c.settle.new.world before after (map HandedOut handed) (c.self.invariant (ap is_some c.in_default.is)) c.in-Ok.ensures.moves
    (added_absent before after handed c.in-Ok-put_each.ensures)

pub returns-in-Ok-put_each-clause-worked : goal.returns-in-Ok-put_each-clause-worked
returns-in-Ok-put_each-clause-worked c =
    let handed = map handed_seen c.in-Ok.handed.items in
    let old : WorldBackendState = record { world = c.self.inside.world; taps = c.self.inside.taps.by_conn.entries; failed = is_some c.self.inside.failed } in
    let new : WorldBackendState = record { world = c.settle.new.world; taps = c.put_each.new.self.by_conn.entries; failed = is_some c.self.inside.failed } in
    subst (λ (a : WorldBackendState). HasWorked (HasLedTo a) (HasLedTo new) (IsAtRest new) (Kept a) (Kept new)) c.self.view_is
    (has_worked old new handed (c.self.invariant (ap is_some c.in_default.is)) (ap is_some c.in_default.is) c.in-Ok.ensures c.in-Ok-put_each.ensures)

pub returns-in-Some-clause-left : goal.returns-in-Some-clause-left
returns-in-Some-clause-left c = once_led _

pub returns-in-Err-clause-left : goal.returns-in-Err-clause-left
returns-in-Err-clause-left c = once_led _

pub returns-in-Err-put_each-clause-left : goal.returns-in-Err-put_each-clause-left
returns-in-Err-put_each-clause-left c = once_led _
