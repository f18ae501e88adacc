use denote.Param.Send.{sendable}
use Rattle.std.proofs.Crossing.{crosses}
use Rattle.nr_crew.specs.contracts.running.start_one as rows
use Rattle.nr_crew.proofs.Crossing.{lane_send, leaving_send}
use Rattle.nr_crew.proofs.running.Shared.TheSendSync as shared
use Rattle.nr_crew.proofs.running.start_one.Goals as goal

pub spawn_with-started-requires-send-F : goal.spawn_with-started-requires-send-F
spawn_with-started-requires-send-F g c κs within =
    let name = rows.B-row g.row.B g.row.R g.row.S g.row.D g.row.M g.row.K g.row.G in
    let device = rows.D-row g.row.B g.row.R g.row.S g.row.D g.row.M g.row.K g.row.G in
    let clock = rows.M-row g.row.B g.row.R g.row.S g.row.D g.row.M g.row.K g.row.G in
    let lane = lane_send name g.B.ServerName g.B.LogName device clock c.type_bounds.send-D c.type_bounds.send-M in
    search (sendable, crosses, shared.the_send) depth 20

pub spawn_with-started-requires-send-T : goal.spawn_with-started-requires-send-T
spawn_with-started-requires-send-T g c κs within = search (sendable, crosses, leaving_send) depth 20
