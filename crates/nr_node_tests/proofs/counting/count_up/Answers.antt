use denote.Param.Send.{sendable}
use Rattle.nr_test_parts.proofs.Crossing.{station_send}
use Rattle.nr_node_tests.proofs.counting.count_up.Goals as goal

pub map_vec-requires-send-J : goal.map_vec-requires-send-J
map_vec-requires-send-J g c κs within = search (sendable, station_send)
