-- One sequence explains every past: what was taken, in order.
use Rattle.std.proofs.Common.{List, sym, subst}
use Rattle.nr_model.specs.Connections.{Setup}
use Rattle.nr_model.specs.Nodes.{World, fresh, sequence_of}
use Rattle.nr_model.specs.Nodes.Pasts.{Event, AreEvents, world_after}
use Rattle.nr_model.specs.Nodes.Explained.{Explains, NodesLaw}
use Rattle.nr_model.proofs.NodesOwnHolds.{each_holds}
use Rattle.nr_model.proofs.NodesAccountsKnown.{nodes_accounted, nodes_replicas}
use Rattle.nr_model.proofs.NodesExecuted.{are_executed}
use Rattle.nr_model.proofs.NodesInTime.{AreKnown, are_in_time}

known : (setup : Setup) (events : List Event) → AreEvents setup (fresh setup) events → AreKnown events (world_after setup events)
known setup events are =
    record { own = (each_holds setup events).own; accounted = (nodes_accounted setup events are).beginning }

each_explained : (setup : Setup) (events : List Event) → AreEvents setup (fresh setup) events
    → Explains (sequence_of (world_after setup events)) setup events (world_after setup events)
each_explained setup events are =
    record {
      holds = each_holds setup events;
      executed = are_executed setup events are;
      accounts = nodes_accounted setup events are;
      replicas = nodes_replicas setup events are;
      in_time = are_in_time setup (known setup) events are;
    }

pub nodes_are_explained : NodesLaw
nodes_are_explained =
    record {
      explained = λ setup events world past.
          subst (λ (w : World). Explains (sequence_of w) setup events w) (sym past.1) (each_explained setup events past.0);
    }
