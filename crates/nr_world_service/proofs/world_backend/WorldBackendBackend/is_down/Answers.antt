use Rattle.std.proofs.Common.{rules, ◌≡◌, false}
use Rattle.std.specs.Prelude.{is_some}
use Rattle.nr_world_service.proofs.Told.{nodes_many}
use Rattle.nr_world_service.proofs.world_backend.WorldBackendBackend.is_down.Goals as goal

pub is_down-requires : goal.is_down-requires
is_down-requires c =
    let up : is_some c.self.inside.failed ≡ false = search (rules, c.if-is_some.false) in
    nodes_many c.self.inside.world c.self.inside.taps.by_conn.entries (c.self.invariant up)
