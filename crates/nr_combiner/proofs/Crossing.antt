-- A worker, with the node that it shares, may go to another thread: by the parts of a node, since the toolchain keeps no such lemma of what holds a type that
-- holds itself (a reply, a tree).
use denote.RattleType.{RattleType}
use denote.Param.Send.{IsSend, IsSync, view_send, view_sync}
use denote.Param.SendFields.{declared_send, declared_sync}
use Rattle.std.proofs.Crossing.{Arc-send, crosses}
use Rattle.std.specs.contracts.sync.Mutex as Mutex
use Rattle.nr_entry.proofs.Crossing.{sent}
use Rattle.nr_oplog.specs.declared.log.LogName as log_name
use Rattle.nr_oplog.specs.contracts.log.Oplog as Oplog
use Rattle.nr_oplog.proofs.Crossing.{log_send, log_sync}
use Rattle.nr_slots.proofs.Crossing.{slots_send, slots_sync, worker_send as seat_send, combiner_send as desk_send}
use Rattle.nr_slots.specs.contracts.slots.Slots as Slots
use Rattle.nr_node.proofs.Crossing.{core_send}
use Rattle.nr_combiner.specs.declared.name.ServerName as server_name
use Rattle.nr_combiner.specs.contracts.combiner.Combiner as Combiner
use Rattle.nr_combiner.specs.contracts.counts.Counts as Counts
use Rattle.nr_combiner.specs.contracts.node.Node as Node
use Rattle.nr_combiner.specs.contracts.node_handle.NodeHandle as NodeHandle

module _ (B : RattleType) (s : server_name.Ghosts B.Denot) (g : log_name.Ghosts B.Denot) where
  counts_send : IsSend Counts.the_row
  counts_send = view_send Counts.TheInside.the_row _ _ _ _ (declared_send Counts.TheInside.the_type (search sent, (search sent, (search sent, tt))))

  combiner_send : IsSend (Combiner.the_row B s g)
  combiner_send = view_send (Combiner.TheInside.the_row B s g) _ _ _ _ (declared_send (Combiner.TheInside.the_type B s g)
      (search sent, (core_send B g, (desk_send, (Arc-send Slots.the_row slots_send slots_sync, (search sent, (search sent, (counts_send, (search sent, tt)))))))))

  lock_send : IsSend (Mutex.the_row (Combiner.the_row B s g))
  lock_send = search (crosses, combiner_send)

  lock_sync : IsSync (Mutex.the_row (Combiner.the_row B s g))
  lock_sync = search (crosses, combiner_send)

  node_send : IsSend (Node.the_row B g s)
  node_send = view_send (Node.TheInside.the_row B g s) _ _ _ _ (declared_send (Node.TheInside.the_type B g s)
      (search sent, (lock_send, (Arc-send (Oplog.the_row B g) (log_send B g) (log_sync B g), (Arc-send Slots.the_row slots_send slots_sync, (search sent, (search sent, (search sent, (search sent, (search sent, tt))))))))))

  pub node_sync : IsSync (Node.the_row B g s)
  node_sync = view_sync (Node.TheInside.the_row B g s) _ _ _ _ (declared_sync (Node.TheInside.the_type B g s)
      (search sent, (lock_sync, (search (crosses, log_send B g, log_sync B g), (search (crosses, slots_send, slots_sync), (search sent, (search sent, (search sent, (search sent, (search sent, tt))))))))))

  pub worker_send : IsSend (NodeHandle.the_row B s g)
  worker_send = view_send (NodeHandle.TheInside.the_row B s g) _ _ _ _ (declared_send (NodeHandle.TheInside.the_type B s g)
      (Arc-send (Node.the_row B g s) node_send node_sync, (search sent, (seat_send, (search sent, (search sent, tt))))))
