-- Rounds settle every world, and are few.
use Rattle.nr_model.specs.Nodes.Settling.{SettlingLaw}
use Rattle.nr_model.proofs.NodesSettled.{rounds_settle}
use Rattle.nr_model.proofs.NodesRounds.{rounds_few}

pub nodes_settle : SettlingLaw
nodes_settle = record { settles = rounds_settle; few = rounds_few }
