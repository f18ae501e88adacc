-- What contracts see of a node behind its lock.
use Rattle.std.specs.Prelude.{◌≡◌, ℕ}
use Rattle.nr_log_end.specs.declared.standing.Standing.{Standing}
use Rattle.nr_replica.specs.Replicas.{ReplicaState}
use Rattle.nr_slots.specs.Seats.{SlotsView}
use Rattle.nr_node.specs.Level.{IsLevel}
use Rattle.nr_node.specs.Sound.{IsSound}

-- which node it is, the slots in which its workers hand in their batches, how many connections are open at most, and how many bytes wait for one at most
pub record NodeView : Type 0 where
  pub node : ℕ
  pub slots : SlotsView
  pub connections : ℕ
  pub limit : ℕ

-- The replica of a node, taken out of its lock, with how its end of the log stood: it is level with that.
pub record IsTakenOut (node : ℕ) (s : Standing) (replica : ReplicaState) : Type 0 where
  pub node_is : s.node ≡ node
  pub level : IsLevel s replica
  pub sound : IsSound s
