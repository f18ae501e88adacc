use Rattle.std.proofs.Common.{rules, ◌≡◌, false}
use Rattle.std.specs.Prelude.{is_some}
use Rattle.nr_world_service.proofs.Told.{nodes_many}
use Rattle.nr_world_service.proofs.world_backend.WorldBackendBackend.standing.Goals as goal

pub standing-requires : goal.standing-requires
standing-requires c =
    let up : is_some c.self.inside.failed ≡ false = search (rules, c.if-is_some.false) in
    nodes_many c.self.inside.world c.self.inside.taps.by_conn.entries (c.self.invariant up)
