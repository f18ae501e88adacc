use Rattle.nr_model.proofs.NodesSettling.{nodes_settle}
use Rattle.nr_model.proofs.nodes.settling_law.Goals as goal

pub returns : goal.returns
returns c = nodes_settle
