-- What contracts see of a world, and the worlds of the definitions that it shows.
use Rattle.std.specs.Prelude.{◌≡◌, ◌<◌, ◌≤◌, ℕ, Bool, false, List, map, drop, length, refl}
use Rattle.std.specs.Coded.{Coded, code_by, coded×, coded_ℕ, coded_bool, coded_list}
use Rattle.nr_model.specs.Connections.{Setup}
use Rattle.nr_model.specs.Nodes as nodes
use Rattle.nr_model.specs.Nodes.{log_of, tail_of, node_at}
use Rattle.nr_world.specs.declared.node.WorldNode.{WorldNode}
use Rattle.nr_world.specs.contracts.node.WorldNode as of_node
use Rattle.nr_world.specs.declared.log.Log.{Log}
use Rattle.nr_world.specs.contracts.log.Log as of_log
use Rattle.nr_world.specs.Served.{node_seen}
use Rattle.nr_world.specs.Logs.{log_seen}

abbrev pub coded_setup : Coded Setup
coded_setup =
    code_by (ℕ × (ℕ × (ℕ × (ℕ × ℕ)))) (coded× coded_ℕ (coded× coded_ℕ (coded× coded_ℕ (coded× coded_ℕ coded_ℕ))))
    (λ s. (s.nodes, (s.places, (s.workers, (s.connections, s.queue_limit)))))
    (λ p. record { nodes = p.0; places = p.1.0; workers = p.1.1.0; connections = p.1.1.1.0; queue_limit = p.1.1.1.1 }) (λ _. refl)

-- how large it is, its nodes, the entries of the log that some node hasn't passed, and whether memory ran out: then the rest is open
pub record WorldState : Type 0 where
  pub setup : Setup
  pub nodes : List WorldNode
  pub log : Log
  pub failed : Bool

abbrev pub coded_world : Coded WorldState
coded_world =
    code_by (Setup × (List WorldNode × (Log × Bool))) (coded× coded_setup (coded× (coded_list of_node.the_row.coded) (coded× of_log.the_row.coded coded_bool)))
    (λ w. (w.setup, (w.nodes, (w.log, w.failed)))) (λ p. record { setup = p.0; nodes = p.1.0; log = p.1.1.0; failed = p.1.1.1 }) (λ _. refl)

-- It shows a world of the definitions: its nodes, and the log from an entry on that every node has passed.
pub record Shows (v : WorldState) (world : nodes.World) : Type 0 where
  pub still : v.failed ≡ false
  pub nodes : map node_seen v.nodes ≡ world.nodes
  pub log : log_seen v.log ≡ drop v.log.base (log_of world.taken)
  pub base : v.log.base ≤ tail_of world
  pub passed : (n : ℕ) → n < length world.nodes → v.log.base ≤ (node_at n world).passed
