-- Which setups are allowed.
use Rattle.std.specs.Prelude.{◌≤◌}
use Rattle.nr_model.specs.Connections.{Setup}

-- each number is in its range
pub record IsAllowed (setup : Setup) : Type 0 where
  pub one_node : 1 ≤ setup.nodes
  pub most_nodes : setup.nodes ≤ 8
  pub two_places : 2 ≤ setup.places
  pub most_places : setup.places ≤ 65536
  pub one_worker : 1 ≤ setup.workers
  pub most_workers : setup.workers ≤ 16
  pub one_connection : 1 ≤ setup.connections
  pub most_connections : setup.connections ≤ 1024
  pub least_queue : 1024 ≤ setup.queue_limit
  pub most_queue : setup.queue_limit ≤ 1073741824
